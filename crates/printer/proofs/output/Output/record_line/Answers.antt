-- One field stands after another, each in its room. Assumes nothing.
use Rattle.std.proofs.Common.{lit≤}
use Rattle.printer.specs.Printed.{record_line}
use Rattle.printer.proofs.Writing.{adds_more, adds_wider}
use Rattle.printer.proofs.output.Output.record_line.Goals as goal

pub returns : goal.returns
unfolding record_line
returns c =
    rw (← c.from.ensures, ← c.from-2.ensures)
    (adds_wider (lit≤ tt) (adds_more (adds_more (adds_more c.field.ensures c.field-2.ensures) c.far.ensures) c.bytes.ensures))
