-- The newline stands after the field. Assumes nothing.
use Rattle.printer.proofs.Writing.{adds_more}
use Rattle.printer.proofs.output.Output.head.Goals as goal

pub returns : goal.returns
returns c = adds_more c.field.ensures c.bytes.ensures
