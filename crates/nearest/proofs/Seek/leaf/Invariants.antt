-- After i slots, the first i parts of the leaf are searched.
use Rattle.std.proofs.Common.{◌+◌, ◌*◌, ◌≤◌}
use Rattle.order.specs.Order.{gather}
use Rattle.tree.specs.Under.{part_bays}
use Rattle.nearest.specs.Best.{listing}
use Rattle.nearest.specs.Searched.{Searched}
use Rattle.floor.specs.Seen.{seen}
use Rattle.nearest.specs.Sought.{away}
use Rattle.nearest.proofs.Seek.leaf.Given as goal

abbrev pub invariant-loop-i : goal.invariant-loop-i
invariant-loop-i l =
    (8 * l.node + 8 ≤ 2048)
    × Searched (seen l.self.map) (away l.self) l.self.q (gather (part_bays (seen l.self.map) 0 l.node) l.i) l.initial.best (listing l.self.q.k l.best.keys l.best.len)
