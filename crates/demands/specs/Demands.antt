-- The three demands, of any way of replying. Ours is `reply_of`, which the contract of `ask::ask` cites, as that of `rules::check`
-- cites `verdict_of`; proofs/Demands.antt shows that it meets them, on every map, question and room, and proofs/Refuted.antt
-- that the wrong ones of specs/Wrong.antt do not.
use Rattle.std.specs.Prelude.{◌≡◌, Bool, true, false, ℕ, ◌+◌, ◌^◌, ◌≤◌, ◌<◌, length}
use mathlib.Core.List.{List, [], map, Memᴰ}
use Rattle.numbers.specs.Exactly.{Exactly}
use Rattle.words.specs.Words.{Bytes}
use Rattle.measure.specs.declared.Point.{Point}
use Rattle.floor.specs.View.{view_of}
use Rattle.rules.specs.Verdicts.{Keeps}
use Rattle.order.specs.Order.{Strict, Once}
use Rattle.record.specs.declared.Record.{Record}
use Rattle.question.specs.declared.mark.Mark.{Mark}
use Rattle.question.specs.declared.Question.{Question}
use Rattle.question.specs.Mark.{before, start}
use Rattle.nearest.specs.Shown.{distance_to, whole_list}
use Rattle.ask.specs.Told.{record_at, mark_of, page_of}
use Rattle.ask.specs.Reply.{accepted, refusal, refused, answered}
use Rattle.ask.specs.Table.{Table}
use Rattle.demands.specs.Visible.{Bay, visible, seen_from, SameBays, Alike}
use Rattle.demands.specs.Runs.{Replying, Call, reply_to, received, joined, next_mark, accepted_in, Turn, asking, page_on, Run, Pairwise, SameCall, SameTurn}

-- the badge's whole list from a point, on the map's bytes, as it is told
abbrev pub list_on : List ℕ → ℕ → Point → List Record
list_on m badge point =
    map (record_at (view_of m) (distance_to (view_of m) point)) (whole_list (view_of m) (distance_to (view_of m) point) badge)

-- the order of bays, of records
abbrev pub earlier : Record → Record → Bool
earlier a b = before (mark_of a) (mark_of b)

abbrev pub numbers_of : List Record → List ℕ
numbers_of l = map (λ (r : Record). r.bay) l

-- Demand 1: every map, question and room has a reply; the refusals are the table's, exactly; a refusal finds nothing and
-- changes no byte.
pub record Demand1 (reply : Replying) : Type 0 where
  pub tried : (m : List ℕ) (q : Question) (room : List ℕ) → (reply m q room).number ≡ refusal m q (length room)
  pub table : (m : List ℕ) (q : Question) (room : List ℕ) → q.badge.0 < 2 ^ 32 → Table m q (length room)
  pub unchanged : (m : List ℕ) (q : Question) (room : List ℕ) → ((reply m q room).number ≡ 0 → ⊥)
      → reply m q room ≡ refused (refusal m q (length room)) room

-- Demand 2: a map is accepted exactly when it keeps the rules; a good question gets the page, the first k after the mark of
-- the badge's whole list, which holds exactly the visible bays, each once and in order.
pub record Demand2 (reply : Replying) : Type 0 where
  pub checked : (m : List ℕ) → Exactly (accepted m) (Keeps (view_of m))
  pub paged : (m : List ℕ) (q : Question) (room : List ℕ) → (reply m q room).number ≡ 0
      → reply m q room ≡ answered (page_of m q) q.k room
  pub listed : (m : List ℕ) (badge : ℕ) (point : Point) (b : Bay) → Memᴰ b (visible badge m)
      → Memᴰ (seen_from point b) (list_on m badge point)
  pub nothing_else : (m : List ℕ) (badge : ℕ) (point : Point) (r : Record) → Memᴰ r (list_on m badge point)
      → (b : Bay) × Memᴰ b (visible badge m) × (seen_from point b ≡ r)
  pub ordered : (m : List ℕ) (badge : ℕ) (point : Point) → accepted m ≡ true → Strict earlier (list_on m badge point)
  pub once : (m : List ℕ) (badge : ℕ) (point : Point) → accepted m ≡ true → Once (numbers_of (list_on m badge point))

-- Demand 3, for the runs of one badge from one point, over maps that show it the bays of an accepted one.
pub record Paging (reply : Replying) (badge : ℕ) (point : Point) (home : List ℕ) : Type 0 where
  -- the pages of an ended run, joined, are the whole list of demand 2, each bay once
  pub joins : (calls : List Call) → Run reply badge point home start calls true → joined reply calls ≡ list_on home badge point
  -- it ends after at most as many accepted questions as there are visible bays, and one; one that has not ended has had fewer
  pub ends : (calls : List Call) → Run reply badge point home start calls true → accepted_in reply calls ≤ length (visible badge home) + 1
  pub goes_on : (calls : List Call) → Run reply badge point home start calls false → accepted_in reply calls ≤ length (visible badge home)
  -- and it does end, if more turns come that would be accepted than there are visible bays
  pub comes_short : (turns : List Turn)
      → ((t : Turn) → Memᴰ t turns → Bytes t.map × (accepted t.map ≡ true → SameBays badge home t.map))
      → length (visible badge home) < accepted_in reply (map (asking badge point start) turns)
      → Run reply badge point home start (page_on reply badge point start turns) true
  -- the same questions with the same rooms over maps that are alike are a run, too, and end as the first does
  pub same_run : (calls others : List Call) (ended : Bool) → Pairwise SameCall calls others
      → Run reply badge point home start calls ended → Run reply badge point home start others ended

pub record Demand3 (reply : Replying) : Type 0 where
  -- a reply hangs on the question, the room, the visible bays and the yes or no of the check: number, found and every byte
  pub depends_only : (m other : List ℕ) (q : Question) (room : List ℕ) → Alike q.badge.0 m other → reply m q room ≡ reply other q room
  -- so every reply of two runs is the same, refused ones too
  pub same_replies : (calls others : List Call) → Pairwise SameCall calls others → map (reply_to reply) calls ≡ map (reply_to reply) others
  -- and whoever pages on with the same k and room is led to the same questions, whichever maps stood in
  pub same_paging : (badge : ℕ) (point : Point) (turns others : List Turn) → Pairwise (SameTurn badge) turns others
      → Pairwise SameCall (page_on reply badge point start turns) (page_on reply badge point start others)
  -- a refused call adds nothing, and its mark is used again
  pub refused_adds_nothing : (c : Call) (mark : Mark) → ((reply_to reply c).number ≡ 0 → ⊥)
      → (received reply c ≡ []) × (next_mark mark (received reply c) ≡ mark)
  pub pages : (badge : ℕ) (point : Point) (home : List ℕ) → accepted home ≡ true → Paging reply badge point home
