-- The question's reply: its number, how many bays were found, and the answer room's bytes after the call. Document 01,
-- 'The question and its reply'.
use Rattle.std.specs.Prelude.{◌≡◌, Bool, not, cond, ◌&&◌, List, [], ◌∷◌, ◌++◌, ℕ, ◌*◌, ◌≤◌, eqb, leb, ltb, length, Result, Ok, Err}
use Rattle.numbers.specs.Tried.{Test, test, first_given}
use Rattle.measure.specs.Answer.{point_ok}
use Rattle.floor.specs.View.{view_of}
use Rattle.rules.specs.Verdicts.{number_of, verdict_of}
use Rattle.record.specs.declared.Record.{Record}
use Rattle.record.specs.Record.{record_size, room_with}
use Rattle.question.specs.declared.Question.{Question}
use Rattle.question.specs.Badge.{badge_ok}
use Rattle.nearest.specs.Needed.{Searchable}
use Rattle.ask.specs.declared.Refusal.{Refusal}
use Rattle.ask.specs.declared.Refusal.TheVariants.{PointOutside, CountOutside, BadgeRefused, RoomTooShort, MapRefused}
use Rattle.ask.specs.Told.{page_of}

-- document 01's number of a refusal
abbrev pub refusal_number : Refusal → ℕ
refusal_number PointOutside = 1
refusal_number CountOutside = 2
refusal_number BadgeRefused = 3
refusal_number RoomTooShort = 4
refusal_number MapRefused = 5

-- the number and the found of an answer: n bays found, or a refusal
abbrev pub answer_number : {A : Type 0} → Result A Refusal → ℕ
answer_number (Ok x) = 0
answer_number (Err r) = refusal_number r

abbrev pub answer_found : Result ℕ Refusal → ℕ
answer_found (Ok n) = n
answer_found (Err r) = 0

-- 1 to 100 bays may be asked for
abbrev pub count_ok : ℕ → Bool
count_ok k = leb 1 k && leb k 100

-- the map check is 0
abbrev pub accepted : List ℕ → Bool
accepted map = eqb (number_of (verdict_of map)) 0

-- what a question is refused for by itself, with a room of so many bytes; and what it is refused for on a map
abbrev pub own_tests : Question → ℕ → List Test
own_tests q size =
    test 1 (not (point_ok q.from))
    ∷ test 2 (not (count_ok q.k))
    ∷ test 3 (not (badge_ok q.badge.0))
    ∷ test 4 (ltb size (record_size * q.k))
    ∷ []

abbrev pub tests : List ℕ → Question → ℕ → List Test
tests map q size = own_tests q size ++ (test 5 (not (accepted map)) ∷ [])

-- the first refusal that is given, or 0
unfoldable pub refusal : List ℕ → Question → ℕ → ℕ
refusal map q size = first_given (tests map q size)

pub record Reply : Type 0 where
  pub number : ℕ
  pub found : ℕ
  pub room : List ℕ

-- an answer given, with the room as the call left it
abbrev pub given : Result ℕ Refusal → List ℕ → Reply
given a room = record { number = answer_number a; found = answer_found a; room = room }

-- refused: nothing is found, and the room is as it was
abbrev pub refused : ℕ → List ℕ → Reply
refused n room = record { number = n; found = 0; room = room }

-- answered: the page's bays are found, and the room holds them
abbrev pub answered : List Record → ℕ → List ℕ → Reply
answered rs k room = record { number = 0; found = length rs; room = room_with k rs room }

-- the reply to a question on a map, with a room
unfoldable pub reply_of : List ℕ → Question → List ℕ → Reply
reply_of map q room =
    cond (eqb (refusal map q (length room)) 0) (answered (page_of map q) q.k room) (refused (refusal map q (length room)) room)

-- what a question is answered by itself: a refusal, or nothing where only the map can say more
abbrev pub OwnAnswer : Question → ℕ → Result (Unit {0}) Refusal → Type 0
OwnAnswer q size a = answer_number a ≡ first_given (own_tests q size)

-- a question that may be answered on a map, with a room of so many bytes
pub record Answerable (map : List ℕ) (q : Question) (size : ℕ) : Type 0 where
  pub search : Searchable (view_of map) q
  pub fits : record_size * q.k ≤ size

-- its page: how many bays it has, and the room after it
pub record PageFilled (map : List ℕ) (q : Question) (room after : List ℕ) (n : ℕ) : Type 0 where
  pub count : n ≡ length (page_of map q)
  pub bytes : after ≡ room_with q.k (page_of map q) room
