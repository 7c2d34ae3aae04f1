-- After i slots, the least of them.
use Rattle.std.proofs.Common.{◌≡◌, ℕ, ◌<◌, ◌≤◌, length, get_or}
use Rattle.nearest.specs.Reach.{none}
use Rattle.nearest.proofs.reach.least.Given as goal

abbrev pub invariant-loop-i : goal.invariant-loop-i
invariant-loop-i l =
    (l.at < l.i) × (length l.ds ≡ 8) × ((j : ℕ) → j < l.i → (get_or l.ds l.at none).0 ≤ (get_or l.ds j none).0)
