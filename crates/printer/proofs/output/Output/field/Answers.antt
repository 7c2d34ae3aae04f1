-- The number stands after its key, and both fit. Assumes nothing.
use Rattle.std.proofs.Common.{arith}
use Rattle.decimal.proofs.Laws.{decimal_short}
use Rattle.printer.proofs.Writing.{adds_more, adds_wider, room_left}
use Rattle.printer.proofs.output.Output.field.Goals as goal

pub decimal-requires : goal.decimal-requires
decimal-requires c =
    omega (arith, decimal_short c.args.n c.ranges.n.fits, room_left 20 (adds_wider c.requires.0 c.bytes.ensures) c.requires.1)

pub returns : goal.returns
returns c = adds_more (adds_wider c.requires.0 c.bytes.ensures) (adds_wider (decimal_short c.args.n c.ranges.n.fits) c.decimal.ensures)
