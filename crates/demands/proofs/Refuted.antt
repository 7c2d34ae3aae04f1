-- The wrong ways of replying fail a demand, each on bytes: the demands shut them out. Assumes nothing.
use Rattle.std.specs.Prelude.{Err}
use Prim.Native.Nat.{ℕ}
use native.Mathlib.Omega.{arith}
use mathlib.Core.Path.{◌≡◌, refl, sym, ap, ap₂, ◌∙◌}
use mathlib.Core.Bool.{true, true≢false}
use mathlib.Core.List.{List, [], ◌∷◌, ◌++◌}
use lib.Dec.{eqb}
use lib.ListN.{length, take, get_or, replicate}
use borrow.Author.Tests.{eq-eqb, ne_eqb}
use Rattle.numbers.specs.Tried.{first_given}
use Rattle.measure.specs.Axis.{in_range, square_of, nearest_on}
use Rattle.measure.specs.Axes.{min_dist}
use Rattle.words.specs.Words.{le_at, le_bytes}
use Rattle.floor.specs.Written.{slot_bytes, slots_bytes}
use Rattle.floor.specs.View.{view_of, filled}
use Rattle.rules.specs.Header.{fields_ok, header_ok}
use Rattle.rules.specs.Form.{form_ok}
use Rattle.rules.specs.declared.Fault.TheVariants.{BadHeader, Broken}
use Rattle.rules.specs.declared.Rule.TheVariants.{Form}
use Rattle.rules.specs.Verdicts.{number_of, first_broken, verdict_of}
use Rattle.tree.specs.Flat.{all_bays}
use Rattle.tree.specs.Examples.{header, node, blanks, example_map}
use Rattle.order.specs.Order.{place, sort_onto, only, gather}
use Rattle.record.specs.declared.Record.{Record}
use Rattle.record.specs.Record.{record_bytes, records_of, room_with, records_in}
use Rattle.question.specs.declared.mark.Mark.{Mark}
use Rattle.question.specs.Mark.{before, start}
use Rattle.question.specs.Badge.{on_badge, badge_ok}
use Rattle.nearest.specs.Shown.{shown_at, whole_list, page}
use Rattle.ask.specs.Told.{page_of}
use Rattle.ask.specs.Reply.{accepted, refusal, Reply, reply_of}
use Rattle.ask.proofs.Answers.{number_is}
use Rattle.demands.specs.Visible.{seen_from, Alike}
use Rattle.demands.specs.Runs.{Call, reply_to, received, joined, next_mark, asking, Asks, Run, full, short}
use Rattle.demands.specs.Demands.{list_on, Demand1, Demand2, Demand3}
use Rattle.demands.specs.Examples.{moved_map, lamp, question}
use Rattle.demands.specs.Wrong.{refuses_all, fixed_reply, never_writes, made_up_found, later_empty, tells_rule}
use Rattle.demands.proofs.Pages.{past, Got, got}
use Rattle.demands.proofs.Whole.{from_start}
use Rattle.demands.proofs.Examples.{example_taken, moved_taken, bay4, bay7, good, pages, whole, turn, example_fair}

-- document 01's question, with a room of zeros
abbrev zeros : List ℕ
zeros = replicate 32 0

none : (m : List ℕ) → accepted m ≡ true → refusal m question 32 ≡ 0
unfolding refusal first_given in_range badge_ok lib.Count.ones lib.Count.ones_in
none m ok = rw ok

number : (m : List ℕ) → accepted m ≡ true → (reply_of m question zeros).number ≡ 0
number m ok = number_is m question zeros ∙ none m ok

pub refuses_all_fails : Demand1 refuses_all → ⊥
refuses_all_fails d = absurd (omega (arith, d.tried example_map question zeros, none example_map example_taken))

-- a map of no bytes is refused
no_map : verdict_of [] ≡ Err BadHeader
unfolding verdict_of header_ok view_of
no_map = refl

no_map_refused : refusal [] question 32 ≡ 5
unfolding refusal first_given in_range badge_ok lib.Count.ones lib.Count.ones_in
no_map_refused = rw no_map

pub fixed_reply_fails : Demand1 fixed_reply → ⊥
fixed_reply_fails d = absurd (omega (arith, d.tried [] question zeros, no_map_refused))

-- the room after the page begins with the number of bay 4
first_byte : get_or (room_with 2 (page_of example_map question) zeros) 0 0 ≡ 4
unfolding room_with records_of record_bytes page whole_list all_bays shown_at gather only place sort_onto before on_badge min_dist square_of nearest_on view_of filled le_at le_bytes slot_bytes slots_bytes
first_byte = refl

pub never_writes_fails : Demand2 never_writes → ⊥
never_writes_fails d =
    let byte : ◌≡◌ {A = ℕ} 0 (get_or (room_with 2 (page_of example_map question) zeros) 0 0) =
    ap (λ (r : Reply). get_or r.room 0 0) (d.paged example_map question zeros (number example_map example_taken)) in
    absurd (omega (arith, byte, first_byte))

pub made_up_found_fails : Demand2 made_up_found → ⊥
made_up_found_fails d =
    let n = number moved_map moved_taken in
    let two : (made_up_found moved_map question zeros).found ≡ 2 = rw (eq-eqb (reply_of moved_map question zeros).number 0 n) in
    let same : (made_up_found moved_map question zeros).found ≡ length (page_of moved_map question) =
    ap (λ (r : Reply). r.found) (d.paged moved_map question zeros n) in
    absurd (omega (arith, two, same, pages.1))

-- ---- page one right, later pages empty: a run of two pages of one, on the example map

abbrev first : Call
first = asking 8 lamp start (turn example_map 1)

first_got : Got (only (past start) (list_on example_map 8 lamp)) first
first_got =
    got example_map 8 lamp start first example_taken
    (record {
      answered = good start example_map 1 example_taken refl refl;
      bytes = (example_fair 1).0;
      same_badge = refl;
      same_point = refl;
      marked = refl;
      shows = record { there = λ x m. m; back = λ x m. m };
    })

first_is : take 1 (only (past start) (list_on example_map 8 lamp)) ≡ seen_from lamp bay4 ∷ []
first_is = ap (take 1) (from_start example_map example_taken 8 lamp ∙ whole)

got_first : received reply_of first ≡ seen_from lamp bay4 ∷ []
got_first = first_got.page ∙ first_is

abbrev held : Mark
held = next_mark start (received reply_of first)

held_bay : held.bay ≡ 4
unfolding next_mark
held_bay = ap (λ (l : List Record). (next_mark start l).bay) got_first

abbrev second : Call
second = asking 8 lamp held (turn example_map 1)

second_empty : reply_to later_empty second ≡ record { number = 0; found = 0; room = room_with 1 [] (replicate 32 9) }
second_empty =
    rw (ne_eqb held.bay 0 (λ e. absurd (omega (arith, e, held_bay))), eq-eqb (reply_to reply_of second).number 0 (good held example_map 1 example_taken refl refl))

asked : (mark : Mark) → (reply_to later_empty (asking 8 lamp mark (turn example_map 1))).number ≡ 0
    → Asks later_empty 8 lamp example_map mark (asking 8 lamp mark (turn example_map 1))
asked mark n =
    record {
      answered = n;
      bytes = (example_fair 1).0;
      same_badge = refl;
      same_point = refl;
      marked = refl;
      shows = record { there = λ x m. m; back = λ x m. m };
    }

none_found : (reply_to later_empty second).found ≡ 0
none_found = ap (λ (r : Reply). r.found) second_empty

ran : Run later_empty 8 lamp example_map start (first ∷ second ∷ []) true
ran =
    full (asked start (good start example_map 1 example_taken refl refl)) (first_got.count ∙ ap length first_is)
    (short (asked held (ap (λ (r : Reply). r.number) second_empty)) (omega (arith, none_found)))

one_joined : joined later_empty (first ∷ second ∷ []) ≡ seen_from lamp bay4 ∷ []
unfolding joined records_in
one_joined =
    ap₂ (λ (x y : List Record). x ++ y) got_first (ap (λ (r : Reply). records_in r.found r.room ++ []) second_empty)

pub later_empty_fails : Demand3 later_empty → ⊥
later_empty_fails d =
    let same : seen_from lamp bay4 ∷ [] ≡ seen_from lamp bay4 ∷ seen_from lamp bay7 ∷ [] =
    sym one_joined ∙ (d.pages 8 lamp example_map example_taken).joins (first ∷ second ∷ []) ran ∙ whole in
    absurd (omega (arith, ap length same))

-- ---- a refused map's rule in the number

-- one leaf root, one level too high
abbrev tall_root : List ℕ
tall_root = header 1 0 1 ++ node 1 0 ++ blanks 8

tall_root_lem : verdict_of tall_root ≡ Err (Broken Form 0)
unfolding verdict_of first_broken header_ok fields_ok form_ok view_of filled le_at le_bytes slot_bytes slots_bytes
tall_root_lem = refl

-- the number of a map that is refused
told : (m : List ℕ) (n : ℕ) → number_of (verdict_of m) ≡ n → (n ≡ 0 → ⊥) → (tells_rule m question zeros).number ≡ n
unfolding refusal first_given in_range badge_ok lib.Count.ones lib.Count.ones_in
told m n e ne =
    let five : (reply_of m question zeros).number ≡ 5 = number_is m question zeros ∙ rw (ne_eqb (number_of (verdict_of m)) 0 (λ z. ne (sym e ∙ z))) in
    rw five e

pub tells_rule_fails : Demand3 tells_rule → ⊥
tells_rule_fails d =
    let same : (tells_rule [] question zeros).number ≡ (tells_rule tall_root question zeros).number =
    ap (λ (r : Reply). r.number) (d.depends_only [] tall_root question zeros both_refused) in
    absurd (omega (arith, same, told [] 11 (ap number_of no_map) (λ z. omega arith), told tall_root 12 (ap number_of tall_root_lem) (λ z. omega arith)))
  where
    both_refused : Alike 8 [] tall_root
    both_refused =
        record {
          check = ap (λ v. eqb (number_of v) 0) no_map ∙ sym (ap (λ v. eqb (number_of v) 0) tall_root_lem);
          bays = λ yes. absurd (true≢false (sym yes ∙ ap (λ v. eqb (number_of v) 0) no_map));
        }
