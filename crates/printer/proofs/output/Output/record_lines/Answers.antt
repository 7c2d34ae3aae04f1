-- No line stands there at the start, and one line more after a turn. Assumes nothing.
use Rattle.std.proofs.Common.{arith}
use Rattle.printer.proofs.Writing.{adds_none, adds_more, adds_wider}
use Rattle.printer.proofs.Lines.{lines_none, lines_next}
use Rattle.printer.proofs.output.Output.record_lines.Goals as goal

pub loop-i-init : goal.loop-i-init
loop-i-init c = rw (lines_none c.args.room.now) (adds_none c.args.self.now (omega (arith, c.requires.1)))

pub loop-i-preserved : goal.loop-i-preserved
loop-i-preserved c =
    rw (lines_next c.loop-i.i c.args.room.now, ← c.record_at.ensures)
    (adds_wider (omega arith) (adds_more c.loop-i.invariant c.record_line.ensures))
