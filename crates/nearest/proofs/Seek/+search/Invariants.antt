-- By induction on the level: the slots that stand open in `ds` are still to be visited, and all others are searched.
use Rattle.std.proofs.Common.{◌≡◌, ℕ, ◌+◌, ◌*◌, ◌<◌, ◌≤◌, length, get_or}
use Rattle.numbers.specs.Below.{count_below}
use Rattle.floor.specs.Seen.{seen}
use Rattle.nearest.specs.Sought.{away}
use Rattle.nearest.specs.Reach.{none}
use Rattle.nearest.proofs.Visits.{open_at, Marks, Visited}
use Rattle.nearest.proofs.Seek.+search.Given as goal

abbrev pub decreases-search : goal.decreases-search
decreases-search l = l.level

abbrev pub invariant-loop-ds : goal.invariant-loop-ds
invariant-loop-ds l =
    (length l.ds ≡ 8)
    × (l.j < 8)
    × (8 * l.node + 8 ≤ 2048)
    × ((i : ℕ) → i < 8 → (get_or l.ds l.j none).0 ≤ (get_or l.ds i none).0)
    × Marks (seen l.self.map) (away l.self) l.node l.ds
    × Visited (seen l.self.map) (away l.self) l.self.q l.level l.node l.ds l.fn.best l.b

abbrev pub decreases-loop-ds : goal.decreases-loop-ds
decreases-loop-ds l = count_below (open_at l.ds) 8
