-- After i turns the room holds the first i records.
use Rattle.std.proofs.Common.{◌≡◌, ◌*◌, ◌≤◌, length}
use Rattle.floor.specs.View.{view_of}
use Rattle.record.specs.Record.{record_size}
use Rattle.record.proofs.Filling.{room_after}
use Rattle.ask.specs.Told.{told_of}
use Rattle.ask.proofs.page.write_page.Given as goal

abbrev pub invariant-loop-i : goal.invariant-loop-i
invariant-loop-i l =
    (l.k ≤ 100)
    × (record_size * l.k ≤ length l.initial.room)
    × (l.room ≡ room_after (told_of (view_of l.map.bytes.now) l.best) l.initial.room l.i)
