-- The box grows slot by slot.
use Rattle.std.proofs.Common.{◌≡◌}
use Rattle.floor.specs.View.{view_of}
use Rattle.rules.specs.Boxes.{hull_of}
use Rattle.rules.proofs.boxes.hull_of.Given as goal

abbrev pub invariant-loop-i : goal.invariant-loop-i
invariant-loop-i l = l.hull ≡ hull_of (view_of l.map.bytes.now) l.n l.i
