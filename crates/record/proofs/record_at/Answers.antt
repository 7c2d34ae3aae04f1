-- The numbers stand at their places in the record. Assumes nothing.
use Rattle.std.proofs.Common.{◌*◌, refl}
use Rattle.record.specs.Record.{record_size}
use Rattle.record.proofs.Reading.{record_in_lem}
use Rattle.record.proofs.record_at.Goals as goal

pub returns : goal.returns
returns c = record_in_lem c.args.room.now (record_size * c.args.i) _ _ _ c.read.ensures refl c.read-2.ensures
