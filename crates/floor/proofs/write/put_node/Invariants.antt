-- The head, then slot after slot.
use Rattle.floor.proofs.Laid.{Laying}
use Rattle.floor.proofs.write.put_node.Given as goal

abbrev pub invariant-loop-i : goal.invariant-loop-i
invariant-loop-i l = Laying l.initial.map l.map l.n l.slots l.i
