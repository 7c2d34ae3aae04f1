-- After i turns the first i lines stand there.
use Rattle.std.proofs.Common.{◌*◌}
use Rattle.record.specs.Record.{records_in}
use Rattle.printer.specs.Printed.{record_lines}
use Rattle.printer.specs.Wrote.{line_room}
use Rattle.printer.specs.Output.{Adds}
use Rattle.printer.proofs.output.Output.record_lines.Given as goal

abbrev pub invariant-loop-i : goal.invariant-loop-i
invariant-loop-i l = Adds (line_room * l.i) l.initial.self l.self (record_lines (records_in l.i l.room))
