-- Its numbers stand side by side. Assumes nothing.
use Rattle.std.proofs.Common.{◌*◌, rules, ◌∙◌}
use Rattle.record.specs.Record.{record_size}
use Rattle.record.proofs.Bytes.{record_laid}
use Rattle.record.proofs.put_record.Goals as goal

pub returns : goal.returns
returns c =
    c.put-3.ensures
    ∙ rw (c.put-2.ensures, c.put.ensures) (record_laid c.args.room.now (record_size * c.args.i) c.args.r _ c.from-zone.ensures (search rules))
