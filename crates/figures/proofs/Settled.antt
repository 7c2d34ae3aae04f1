-- The starred figures, settled from the definitions by one proof: a test that is computed over the whole table.
-- Assumes nothing.
use mathlib.Core.Path.{◌≡◌, refl}
use mathlib.Core.Bool.{Bool, true, false, not, ◌&&◌, ◌||◌}
use mathlib.Core.List.{List, [], ◌∷◌, map}
use Prim.Native.Nat.{ℕ, ◌+◌, ◌*◌, ◌-◌, ◌^◌}
use lib.Count.{ones, ones_in, ones-ones}
use lib.Dec.{T, eqb, leb, ltb, eqb→eq, leb→le, ltb→lt}
use mir.Facts.{and_yes}
use Rattle.measure.specs.Axis.{in_range, point_in, span_in, square_of, nearest_on, low_is_near, low_is_far}
use Rattle.measure.specs.Axes.{min_dist, min_max_dist}
use Rattle.measure.specs.Answer.{axes_of, Reading, reading, measured_by}
use Rattle.words.specs.Words.{le_at, le_bytes}
use Rattle.floor.specs.Written.{slot_bytes, slots_bytes}
use Rattle.floor.specs.View.{view_of, filled}
use Rattle.bays.specs.Bays.{twin, lone, bays_ok}
use Rattle.rules.specs.Header.{fields_ok, header_ok}
use Rattle.rules.specs.Form.{refer_ok, entry_ok, blank_ok, slot_ok, form_ok}
use Rattle.rules.specs.Fill.{fill_ok}
use Rattle.rules.specs.Links.{named, named_ok, step_ok, links_ok}
use Rattle.rules.specs.Spans.{same_span}
use Rattle.rules.specs.Boxes.{boxes_ok}
use Rattle.rules.specs.Verdicts.{first_broken, verdict_of}
use Rattle.order.specs.Order.{place, sort_onto, only, gather}
use Rattle.question.specs.Badge.{all_zones, zone_limit, on_badge, badge_ok}
use Rattle.numbers.specs.Tried.{first_given}
use Rattle.tree.specs.Flat.{all_bays}
use Rattle.question.specs.Mark.{before}
use Rattle.nearest.specs.Shown.{shown_at, whole_list, page}
use Rattle.record.specs.Record.{record_size}
use Rattle.ask.specs.Told.{page_of}
use Rattle.ask.specs.Reply.{refusal}
use Rattle.figures.specs.Figures.{Claim, measures, asks, zones, plain, seen, Holds, Figure, table, AllHold}

-- the tests, and what each shows
abbrev answers : Reading → ℕ → Bool
answers r v = eqb r.number 0 && eqb r.value v

answers_sound : (r : Reading) (v : ℕ) → T (answers r v) → r ≡ reading 0 v
answers_sound r v t =
    let h = and_yes (eqb r.number 0) (eqb r.value v) t in
    λ i. record { number = eqb→eq r.number 0 h.0 i; value = eqb→eq r.value v h.1 i }

abbrev matches : List (ℕ × ℕ) → List (ℕ × ℕ) → Bool
matches [] [] = true
matches [] (y ∷ ys) = false
matches (x ∷ xs) [] = false
matches (x ∷ xs) (y ∷ ys) = eqb x.0 y.0 && eqb x.1 y.1 && matches xs ys

matches_sound : (xs ys : List (ℕ × ℕ)) → T (matches xs ys) → xs ≡ ys
matches_sound [] [] t = refl
matches_sound [] (y ∷ ys) t = absurd t
matches_sound (x ∷ xs) [] t = absurd t
matches_sound (x ∷ xs) (y ∷ ys) t =
    let h = and_yes (eqb x.0 y.0 && eqb x.1 y.1) (matches xs ys) t in
    let g = and_yes (eqb x.0 y.0) (eqb x.1 y.1) h.0 in
    λ i. (eqb→eq x.0 y.0 g.0 i, eqb→eq x.1 y.1 g.1 i) ∷ matches_sound xs ys h.1 i

abbrev says : Bool → Bool → Bool
says a true = a
says a false = not a

says_sound : (a t : Bool) → T (says a t) → a ≡ t
says_sound true true h = refl
says_sound false true h = absurd h
says_sound true false h = absurd h
says_sound false false h = refl

-- a badge with n zones passes
abbrev passes : ℕ → Bool
passes n = leb 1 n && leb n zone_limit || eqb (2 ^ n - 1) all_zones

-- the zones of such a badge are not counted one by one, since the count of a large number cannot be computed
passes_badge : (n : ℕ) → badge_ok (2 ^ n - 1) ≡ passes n
unfolding badge_ok
passes_badge n = rw (ones-ones n)

abbrev test : Claim → Bool
test (measures p b least promised) =
    answers (measured_by min_dist (axes_of p b)) least && answers (measured_by min_max_dist (axes_of p b)) promised
test (asks m q n found) = eqb (refusal m q (record_size * q.k)) n && matches (map seen (page_of m q)) found
test (zones n t) = says (passes n) t
test (plain d r) = leb (r * r) d && ltb d ((r + 1) * (r + 1))

test_sound : (c : Claim) → T (test c) → Holds c
test_sound (measures p b least promised) t =
    let h = and_yes (answers (measured_by min_dist (axes_of p b)) least) _ t in
    (answers_sound _ _ h.0, answers_sound _ _ h.1)
test_sound (asks m q n found) t =
    let h = and_yes (eqb (refusal m q (record_size * q.k)) n) _ t in
    (eqb→eq _ n h.0, matches_sound _ found h.1)
test_sound (zones n t) h = rw (passes_badge n) (says_sound (passes n) t h)
test_sound (plain d r) t =
    let h = and_yes (leb (r * r) d) (ltb d ((r + 1) * (r + 1))) t in
    record { low = leb→le (r * r) d h.0; high = ltb→lt d ((r + 1) * (r + 1)) h.1 }

abbrev tests : List Figure → Bool
tests [] = true
tests (f ∷ fs) = test f.claim && tests fs

tests_sound : (fs : List Figure) → T (tests fs) → AllHold fs
tests_sound [] t = tt
tests_sound (f ∷ fs) t =
    let h = and_yes (test f.claim) (tests fs) t in
    (test_sound f.claim h.0, tests_sound fs h.1)

pub settled : AllHold table
unfolding in_range point_in span_in square_of nearest_on low_is_near low_is_far min_dist min_max_dist measured_by refusal first_given badge_ok verdict_of first_broken header_ok fields_ok form_ok slot_ok entry_ok refer_ok blank_ok fill_ok links_ok named_ok named step_ok same_span boxes_ok bays_ok lone twin view_of filled le_at le_bytes slot_bytes slots_bytes ones ones_in on_badge before all_bays shown_at whole_list page place sort_onto only gather
settled = tests_sound table tt
