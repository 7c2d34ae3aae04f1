-- The root that was found is the one that is printed. Assumes nothing.
use Rattle.printer.proofs.Writing.{adds_more}
use Rattle.printer.proofs.Theorems.{root_printed}
use Rattle.printer.proofs.output.Output.far.Goals as goal

pub returns : goal.returns
returns c =
    rw (← c.from-dsq.ensures, ← root_printed _ c.plain-mm.result c.plain-mm.ensures)
    (adds_more c.field.ensures c.field-2.ensures)
