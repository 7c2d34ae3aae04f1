-- Runs of pages: calls, what is received, the mark of the next question, and when a run has ended. Over any way of replying,
-- so that what is asked of ours can be held against another.
use Rattle.std.specs.Prelude.{◌≡◌, Bool, true, false, cond, ◌&&◌, List, [], ◌∷◌, ◌++◌, ℕ, ◌+◌, ◌<◌, eqb, ltb}
use Rattle.words.specs.Words.{Bytes}
use Rattle.measure.specs.declared.Point.{Point}
use Rattle.record.specs.declared.Record.{Record}
use Rattle.question.specs.declared.mark.Mark.{Mark}
use Rattle.question.specs.declared.Question.{Question}
use Rattle.record.specs.Record.{records_in}
use Rattle.ask.specs.Told.{mark_of}
use Rattle.ask.specs.Reply.{Reply}
use Rattle.demands.specs.Visible.{SameBays, Alike}

-- one call: the map that stands in, the question, and the room's bytes before
pub record Call : Type 0 where
  pub map : List ℕ
  pub question : Question
  pub room : List ℕ

-- the mark of the next question: the last bay received and its distance, or the mark as it was
unfoldable pub next_mark : Mark → List Record → Mark
next_mark m [] = m
next_mark m (r ∷ rs) = next_mark (mark_of r) rs

-- what comes to a call from outside: the map that stands in, k, and the room
pub record Turn : Type 0 where
  pub map : List ℕ
  pub k : ℕ
  pub room : List ℕ

-- the call that a turn becomes, for a badge that asks from a point, with the mark held
abbrev pub asking : ℕ → Point → Mark → Turn → Call
asking badge point mark t =
    record {
      map = t.map;
      question = record { from = point; k = t.k; badge = record { 0 = badge }; mark = mark };
      room = t.room;
    }

-- two lists as long as each other, whose members are pair by pair as said
unfoldable pub Pairwise : {A : Type 0} → (A → A → Type 0) → List A → List A → Type 0
Pairwise R [] [] = Unit {0}
Pairwise R [] (y ∷ ys) = ⊥
Pairwise R (x ∷ xs) [] = ⊥
Pairwise R (x ∷ xs) (y ∷ ys) = R x y × Pairwise R xs ys

-- the same question and the same bytes in the room before, on maps that are alike for the badge that asks
pub record SameCall (c d : Call) : Type 0 where
  pub question : c.question ≡ d.question
  pub room : c.room ≡ d.room
  pub bytes : Bytes d.map
  pub maps : Alike c.question.badge.0 c.map d.map

pub record SameTurn (badge : ℕ) (t u : Turn) : Type 0 where
  pub k : t.k ≡ u.k
  pub room : t.room ≡ u.room
  pub bytes : Bytes u.map
  pub maps : Alike badge t.map u.map

-- any way of replying to a question on a map, with a room
abbrev pub Replying : Type 0
Replying = List ℕ → Question → List ℕ → Reply

module _ (reply : Replying) where
  -- the reply to a call
  abbrev pub reply_to : Call → Reply
  reply_to c = reply c.map c.question c.room

  -- the bays received by a call, and those of many, joined
  abbrev pub received : Call → List Record
  received c = records_in (reply_to c).found (reply_to c).room

  unfoldable pub joined : List Call → List Record
  joined [] = []
  joined (c ∷ cs) = received c ++ joined cs

  -- how many of the questions were accepted; and a page that came short: accepted, and found < k
  unfoldable pub accepted_in : List Call → ℕ
  accepted_in [] = 0
  accepted_in (c ∷ cs) = cond (eqb (reply_to c).number 0) 1 0 + accepted_in cs

  abbrev pub came_short : Call → Bool
  came_short c = eqb (reply_to c).number 0 && ltb (reply_to c).found c.question.k

  -- fix a badge and a point
  module _ (badge : ℕ) (point : Point) where
    -- paging on: at each turn a call with the mark held, until a page comes short
    unfoldable pub page_on : Mark → List Turn → List Call
    page_on mark [] = []
    page_on mark (t ∷ ts) =
        asking badge point mark t
        ∷ cond (came_short (asking badge point mark t)) [] (page_on (next_mark mark (received (asking badge point mark t))) ts)

    -- and a map whose bays the others must show, too
    module _ (home : List ℕ) where
      -- an accepted question of the run: with the badge, the point and the mark held, on a map that shows the same bays
      pub record Asks (mark : Mark) (c : Call) : Type 0 where
        pub answered : (reply_to c).number ≡ 0
        pub bytes : Bytes c.map
        pub same_badge : c.question.badge.0 ≡ badge
        pub same_point : c.question.from ≡ point
        pub marked : c.question.mark ≡ mark
        pub shows : SameBays badge home c.map

      -- `Run mark calls ended`: the calls page on from the mark; `ended` says whether the last page came short
      pub data Run : Mark → List Call → Bool → Type 0 where
        -- nothing has been asked yet
        waiting : {mark : Mark} → Run mark [] false
        -- a call refused, for whatever reason, on whatever map: it adds nothing, and the mark is used again
        refused : {mark : Mark} {c : Call} {cs : List Call} {ended : Bool} → ((reply_to c).number ≡ 0 → ⊥) → Run mark cs ended → Run mark (c ∷ cs) ended
        -- a full page: the run goes on from the last bay received
        full : {mark : Mark} {c : Call} {cs : List Call} {ended : Bool} → Asks mark c → (reply_to c).found ≡ c.question.k
            → Run (next_mark mark (received c)) cs ended → Run mark (c ∷ cs) ended
        -- a page with found < k ends the run
        short : {mark : Mark} {c : Call} → Asks mark c → (reply_to c).found < c.question.k → Run mark (c ∷ []) true
