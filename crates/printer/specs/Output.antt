-- What a call adds to an output, behind what is written there.
use Rattle.std.specs.Prelude.{◌≡◌, List, ℕ, ◌+◌, ◌≤◌, length}
use Rattle.printer.specs.declared.output.Output.{Output}
use Rattle.printer.specs.Wrote.{WroteIn}

-- so many bytes more can be written
abbrev pub HasRoom : ℕ → Output → Type 0
HasRoom n o = o.end + n ≤ length o.room.now

-- after is before with w written behind the rest, in the same buffer and in the room that was kept for it
pub record Adds (room : ℕ) (before after : Output) (w : List ℕ) : Type 0 where
  pub buffer : after.room.ghost_name ≡ before.room.ghost_name
  pub wrote : WroteIn room before.room.now after.room.now w before.end after.end
