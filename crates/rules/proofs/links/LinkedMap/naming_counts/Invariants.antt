-- Each count is that of the slots passed.
use Rattle.std.proofs.Common.{◌+◌, ◌*◌}
use Rattle.floor.specs.View.{view_of}
use Rattle.rules.proofs.Counts.{CountedTo}
use Rattle.rules.proofs.links.LinkedMap.naming_counts.Given as goal

abbrev pub invariant-loop-n : goal.invariant-loop-n
invariant-loop-n l = CountedTo (view_of l.self.floor.bytes.now) l.counts (8 * l.n)

abbrev pub invariant-loop-i : goal.invariant-loop-i
invariant-loop-i l = CountedTo (view_of l.self.floor.bytes.now) l.counts (8 * l.n + l.i)
