-- The loop's turns are the bytes of `scan`. Assumes nothing.
use Rattle.std.proofs.Common.{◌≡◌, length}
use Rattle.reader.specs.declared.number.State.TheVariants.{Empty}
use Rattle.reader.specs.Scan.{scan}
use Rattle.reader.proofs.number.Form.read_number.Given as goal

abbrev pub invariant-loop-b : goal.invariant-loop-b
invariant-loop-b l = scan l.self.limits l.self.stop l.s l.rest ≡ scan l.self.limits l.self.stop Empty l.fn.text

abbrev pub decreases-loop-b : goal.decreases-loop-b
decreases-loop-b l = length l.rest
