-- The hypotheses of demand 3 can be met, by maps of different height; and without the same bays its conclusion fails.
-- Assumes nothing.
use Rattle.std.specs.Prelude.{Ok}
use Prim.Native.Nat.{ℕ, zero, suc, ◌*◌}
use native.Mathlib.Omega.{arith}
use mathlib.Core.Path.{◌≡◌, refl, sym, ap, ◌∙◌}
use mathlib.Core.Bool.{Bool, true, false, ◌&&◌}
use mathlib.Core.Logic.{⊎_elim}
use mathlib.Core.List.Memᴰ
use mathlib.Core.List.{List, [], ◌∷◌, map, Memᴰ}
use lib.IntN.{pos}
use lib.Dec.{eqb, ltb}
use lib.ListN.{length, replicate}
use borrow.Author.Tests.{ltb-true}
use Rattle.std.proofs.lemmas.Bool.{and_parts}
use Rattle.measure.specs.Axis.{in_range, span_in, square_of, nearest_on}
use Rattle.measure.specs.Axes.{min_dist}
use Rattle.words.specs.Words.{Bytes, le_at, le_bytes}
use Rattle.floor.specs.Written.{slot_bytes, slots_bytes}
use Rattle.floor.specs.View.{view_of, filled}
use Rattle.bays.specs.Bays.{twin, lone, bays_ok}
use Rattle.rules.specs.Header.{fields_ok, header_ok}
use Rattle.rules.specs.Form.{refer_ok, entry_ok, blank_ok, slot_ok, form_ok}
use Rattle.rules.specs.Fill.{fill_ok}
use Rattle.rules.specs.Links.{named, named_ok, step_ok, links_ok}
use Rattle.rules.specs.Spans.{same_span}
use Rattle.rules.specs.Boxes.{tight_ok, hull, outer, boxes_ok}
use Rattle.rules.specs.Verdicts.{number_of, first_broken, verdict_of}
use Rattle.tree.specs.Examples.{example_map}
use Rattle.tree.proofs.Examples.{example_accepted}
use Rattle.order.proofs.Place.{mem_each}
use Rattle.order.specs.Order.{place, sort_onto, only, gather}
use Rattle.question.specs.declared.mark.Mark.{Mark}
use Rattle.question.specs.declared.Question.{Question}
use Rattle.question.specs.Mark.{before, start}
use Rattle.question.specs.Badge.{on_badge, badge_ok}
use Rattle.tree.specs.Flat.{all_bays}
use Rattle.nearest.specs.Shown.{shown_at, whole_list, page}
use Rattle.numbers.specs.Tried.{first_given}
use Rattle.record.specs.Record.{record_size}
use Rattle.ask.specs.Told.{page_of}
use Rattle.ask.specs.Reply.{count_ok, accepted, refusal, Reply, reply_of}
use Rattle.demands.specs.Visible.{Bay, visible, seen_from, SameBays, Alike}
use Rattle.demands.specs.Runs.{reply_to, joined, accepted_in, Turn, asking, page_on, Run}
use Rattle.demands.specs.Demands.{list_on}
use Rattle.demands.specs.Examples.{tall_map, moved_map, lamp, question}
use Rattle.ask.proofs.Answers.{reply_page, number_is}
use Rattle.demands.proofs.Demands.{demand_3}

-- ---- the maps are accepted, by computing the verdict

computed : (verdict_of tall_map ≡ Ok tt) × (verdict_of moved_map ≡ Ok tt)
unfolding verdict_of first_broken header_ok fields_ok form_ok slot_ok entry_ok refer_ok blank_ok fill_ok links_ok named_ok named step_ok same_span boxes_ok tight_ok hull outer bays_ok lone twin view_of filled le_at le_bytes slot_bytes slots_bytes in_range span_in lib.Count.ones lib.Count.ones_in
computed = (refl, refl)

taken : (m : List ℕ) → verdict_of m ≡ Ok tt → accepted m ≡ true
taken m e = ap (λ r. eqb (number_of r) 0) e

pub example_taken : accepted example_map ≡ true
example_taken = taken example_map example_accepted

pub tall_taken : accepted tall_map ≡ true
tall_taken = taken tall_map computed.0

pub moved_taken : accepted moved_map ≡ true
moved_taken = taken moved_map computed.1

-- ---- what they show badge 8

abbrev pub bay7 : Bay
bay7 = record { number = 7; zone = 3; bounds = record { x = record { low = pos 10; high = pos 20 }; y = record { low = pos 0; high = pos 5 } } }

abbrev pub bay4 : Bay
bay4 = record { number = 4; zone = 3; bounds = record { x = record { low = pos 0; high = pos 2 }; y = record { low = pos 0; high = pos 2 } } }

shown : (visible 8 example_map ≡ bay7 ∷ bay4 ∷ []) × (visible 8 tall_map ≡ bay4 ∷ bay7 ∷ []) × (visible 8 moved_map ≡ bay7 ∷ [])
unfolding visible all_bays shown_at gather only on_badge view_of filled le_at le_bytes slot_bytes slots_bytes
shown = (refl, refl, refl)

turned : {A : Type 0} (a b x : A) → Memᴰ x (a ∷ b ∷ []) → Memᴰ x (b ∷ a ∷ [])
turned a b x m =
    ⊎_elim (λ q. Memᴰ.tail (Memᴰ.head q))
    (λ n. ⊎_elim (λ q. Memᴰ.head q) (λ k. absurd (Memᴰ.not-nil k)) (Memᴰ.cases_cons n)) (Memᴰ.cases_cons m)

-- another height, another order, other hidden bays: to badge 8 they are alike
pub alike : Alike 8 example_map tall_map
alike =
    record {
      check = example_taken ∙ sym tall_taken;
      bays = λ _. record {
        there = λ x m. rw shown.1 (turned bay7 bay4 x (rw shown.0 at m));
        back = λ x m. rw shown.0 (turned bay4 bay7 x (rw shown.1 at m));
      };
    }

-- so every question of badge 8 has one reply on both
pub same_answers : (q : Question) (room : List ℕ) → q.badge.0 ≡ 8 → reply_of example_map q room ≡ reply_of tall_map q room
same_answers q room e = demand_3.depends_only example_map tall_map q room (rw e alike)

-- ---- and where the bays differ, the replies do

-- how many bays a map with room for the page gives the question
found_is : (m : List ℕ) → accepted m ≡ true → (reply_of m question (replicate 32 0)).found ≡ length (page_of m question)
unfolding refusal first_given in_range badge_ok lib.Count.ones lib.Count.ones_in
found_is m ok =
    let none : refusal m question 32 ≡ 0 = rw ok in
    ap (λ (r : Reply). r.found) (reply_page m question (replicate 32 0) none)

pub pages : (length (page_of example_map question) ≡ 2) × (length (page_of moved_map question) ≡ 1)
unfolding page whole_list all_bays shown_at gather only place sort_onto before on_badge min_dist square_of nearest_on view_of filled le_at le_bytes slot_bytes slots_bytes
pages = (refl, refl)

pub differs : reply_of example_map question (replicate 32 0) ≡ reply_of moved_map question (replicate 32 0) → ⊥
differs e =
    let same : length (page_of example_map question) ≡ length (page_of moved_map question) =
    sym (found_is example_map example_taken) ∙ ap (λ (r : Reply). r.found) e ∙ found_is moved_map moved_taken in
    omega (arith, same, pages.0, pages.1)

-- ---- a run over both maps: a page of one on each, then a page that comes short

abbrev bytes_ok : List ℕ → Bool
bytes_ok [] = true
bytes_ok (x ∷ xs) = ltb x 256 && bytes_ok xs

bytes_are : (l : List ℕ) → bytes_ok l ≡ true → Bytes l
bytes_are [] e i = omega arith
bytes_are (x ∷ xs) e zero = ltb-true x 256 (and_parts (ltb x 256) (bytes_ok xs) e).0
bytes_are (x ∷ xs) e (suc i) = bytes_are xs (and_parts (ltb x 256) (bytes_ok xs) e).1 i

abbrev pub turn : List ℕ → ℕ → Turn
turn m k = record { map = m; k = k; room = replicate 32 9 }

abbrev pub day : List Turn
day = turn example_map 1 ∷ turn tall_map 1 ∷ turn example_map 2 ∷ []

-- what is asked of the maps of a run that is at home on the example map
abbrev pub Fair : Turn → Type 0
Fair t = Bytes t.map × (accepted t.map ≡ true → SameBays 8 example_map t.map)

pub example_fair : (k : ℕ) → Fair (turn example_map k)
unfolding le_bytes slot_bytes slots_bytes
example_fair k = (bytes_are example_map refl, λ _. record { there = λ x m. m; back = λ x m. m })

tall_fair : (k : ℕ) → Fair (turn tall_map k)
unfolding le_bytes slot_bytes slots_bytes
tall_fair k = (bytes_are tall_map refl, λ _. alike.bays example_taken)

fair : (t : Turn) → Memᴰ t day → Fair t
fair t m =
    mem_each Fair (example_fair 1)
    (λ u i. mem_each Fair (tall_fair 1) (λ w j. mem_each Fair (example_fair 2) (λ z k. absurd (Memᴰ.not-nil k)) w j) u i) t m

pub good : (mark : Mark) (m : List ℕ) (k : ℕ) → accepted m ≡ true → count_ok k ≡ true → ltb 32 (record_size * k) ≡ false → (reply_to reply_of (asking 8 lamp mark (turn m k))).number ≡ 0
unfolding refusal first_given in_range badge_ok lib.Count.ones lib.Count.ones_in
good mark m k ok low fits =
    number_is m (asking 8 lamp mark (turn m k)).question (replicate 32 9) ∙ rw (low, fits, ok)

three : accepted_in reply_of (map (asking 8 lamp start) day) ≡ 3
unfolding accepted_in
three = rw (good start example_map 1 example_taken refl refl, good start tall_map 1 tall_taken refl refl, good start example_map 2 example_taken refl refl)

pub day_ends : Run reply_of 8 lamp example_map start (page_on reply_of 8 lamp start day) true
day_ends =
    (demand_3.pages 8 lamp example_map example_taken).comes_short day fair
    (let two : length (visible 8 example_map) ≡ 2 = ap length shown.0 in omega (arith, three, two))

pub whole : list_on example_map 8 lamp ≡ seen_from lamp bay4 ∷ seen_from lamp bay7 ∷ []
unfolding whole_list all_bays shown_at gather only place sort_onto before on_badge min_dist square_of nearest_on view_of filled le_at le_bytes slot_bytes slots_bytes
whole = refl

-- its pages joined: bay 4, then bay 7, each at 16
pub day_joined : joined reply_of (page_on reply_of 8 lamp start day) ≡ seen_from lamp bay4 ∷ seen_from lamp bay7 ∷ []
day_joined = (demand_3.pages 8 lamp example_map example_taken).joins (page_on reply_of 8 lamp start day) day_ends ∙ whole
