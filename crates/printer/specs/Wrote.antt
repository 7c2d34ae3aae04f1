-- Bytes written into a buffer at a place, and the room that is kept for them.
use Rattle.std.specs.Prelude.{◌≡◌, List, ◌++◌, ℕ, ◌+◌, ◌*◌, ◌≤◌, length, take, drop}

-- after is before with w from at up to to, and nothing else changed
pub record Wrote (before after w : List ℕ) (at to : ℕ) : Type 0 where
  pub bytes : after ≡ take at before ++ (w ++ drop to before)
  pub end : to ≡ at + length w
  pub room : to ≤ length before

-- the same, in the room that was kept for it
pub record WroteIn (room : ℕ) (before after w : List ℕ) (at to : ℕ) : Type 0 where
  pub wrote : Wrote before after w at to
  pub short : to ≤ at + room

-- the room for a key; for a field, whose number has twenty digits at most; and for a line of one field
abbrev pub key_room : ℕ
key_room = 7

abbrev pub field_room : ℕ
field_room = key_room + 20

abbrev pub head_room : ℕ
head_room = field_room + 1

-- the room for how far a bay is, and for its whole line: more than the longest takes
abbrev pub far_room : ℕ
far_room = 2 * field_room

abbrev pub line_room : ℕ
line_room = 192
