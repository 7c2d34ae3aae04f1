-- The two head lines, and then the records' lines. Assumes nothing.
use Rattle.record.proofs.Reading.{length_read}
use Rattle.printer.specs.Printed.{printed}
use Rattle.printer.proofs.Writing.{wrote_in_more}
use Rattle.printer.proofs.print_reply.Goals as goal

pub returns : goal.returns
unfolding printed
returns c =
    let heads = wrote_in_more c.head.ensures.wrote c.head-2.ensures.wrote in
    rw (length_read c.args.found c.args.room.now, ← c.at_start-output.ensures.bytes, ← c.at_start-output.ensures.end, ← c.from.ensures) (wrote_in_more heads c.record_lines.ensures.wrote).wrote
