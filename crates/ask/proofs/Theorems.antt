-- The refusals are given exactly when the table says, and any two replies that meet the contract coincide.
-- Assumes nothing.
use mathlib.Core.Path.{◌≡◌, refl, sym, ap, ◌∙◌}
use mathlib.Core.Bool.{not, cond}
use mathlib.Core.List.{List}
use mathlib.Core.Logic.{◌⊎◌, inl, inr, ⊎_elim}
use Prim.Native.Nat.{ℕ, ◌*◌, ◌^◌, ◌<◌}
use native.Mathlib.Omega.{arith}
use lib.Dec.{eqb}
use borrow.Author.Tests.{eqb-true, eq-eqb}
use Rattle.numbers.specs.Exactly.{Exactly}
use Rattle.numbers.proofs.Exactly.{not_is, le_is, lt_is, and_is, means}
use Rattle.numbers.specs.Tried.{Agree, Tried, first_given}
use Rattle.numbers.proofs.Tried.{tried_exactly}
use Rattle.numbers.proofs.Below.{le_cases}
use Rattle.measure.specs.Axis.{in_range}
use Rattle.measure.specs.Answer.{coordinates}
use Rattle.measure.proofs.Every.{some_fails}
use Rattle.floor.specs.View.{view_of}
use Rattle.rules.specs.Verdicts.{Keeps, number_of}
use Rattle.rules.proofs.Verdicts.{accepted_complete}
use Rattle.question.specs.declared.Question.{Question}
use Rattle.question.proofs.Badges.{badge_is}
use Rattle.std.specs.Prelude.{Result, Ok, Err}
use Rattle.ask.specs.declared.Refusal.{Refusal}
use Rattle.ask.specs.declared.Refusal.TheVariants.{PointOutside, CountOutside, BadgeRefused, RoomTooShort, MapRefused}
use Rattle.record.specs.Record.{record_size}
use Rattle.ask.specs.Reply.{answer_number, answer_found, count_ok, accepted, own_tests, tests, refusal, Reply, given, reply_of}
use Rattle.ask.specs.Table.{BadMap, own_rows, rows, Table}
use Rattle.ask.proofs.Answers.{granted, refusal_none}
use Rattle.ask.proofs.Replies.{accepted_keeps}

-- ---- each test, and what it is a test of

count_is : (k : ℕ) → Exactly (not (count_ok k)) ((k < 1) ⊎ (100 < k))
count_is k =
    means (not_is (count_ok k) (and_is (le_is 1 k) (le_is k 100)))
    (λ out. elim (le_cases 1 k) [ inl a ↦ inr (elim (le_cases k 100) [ inl b ↦ absurd (out (a, b)) | inr b ↦ b ]) | inr b ↦ inl b ])
    (λ w p. ⊎_elim (λ e. omega (arith, e, p.0)) (λ e. omega (arith, e, p.1)) w)

map_is : (map : List ℕ) → Exactly (not (accepted map)) (BadMap map)
map_is map =
    not_is (accepted map) (record { sound = accepted_keeps map; complete = λ k. ap (λ r. eqb (number_of r) 0) (accepted_complete map k) })

-- ---- tried one after another

module _ (map : List ℕ) (q : Question) (size : ℕ) (bits : q.badge.0 < 2 ^ 32) where
  own_agree : Agree (own_tests q size) (own_rows q size)
  unfolding Agree
  own_agree = (
    refl,
    some_fails in_range (coordinates q.from),
    (refl, count_is q.k, (refl, badge_is q.badge.0 bits, (refl, lt_is size (record_size * q.k), tt))),
  )

  all_agree : Agree (tests map q size) (rows map q size)
  unfolding Agree
  all_agree = (
    refl,
    some_fails in_range (coordinates q.from),
    (refl, count_is q.k, (refl, badge_is q.badge.0 bits, (refl, lt_is size (record_size * q.k), (refl, map_is map, tt)))),
  )

  -- the question is not refused by itself, and the map keeps the rules
  answered_is : Exactly (eqb (refusal map q size) 0) (Tried (own_rows q size) 0 × Keeps (view_of map))
  answered_is =
      record {
        sound = λ h. let g = granted map q size (eqb-true (refusal map q size) 0 h) in
            (own.sound (eq-eqb (first_given (own_tests q size)) 0 g.none), accepted_keeps map g.taken);
        complete = λ w.
            eq-eqb (refusal map q size) 0
            (refusal_none q size map (eqb-true (first_given (own_tests q size)) 0 (own.complete w.0)) (ap (λ r. eqb (number_of r) 0) (accepted_complete map w.1)));
      }
    where
      own : Exactly (eqb (first_given (own_tests q size)) 0) (Tried (own_rows q size) 0)
      own = tried_exactly (own_tests q size) (own_rows q size) own_agree 0

  pub table_holds : Table map q size
  unfolding refusal
  table_holds = record { given = tried_exactly (tests map q size) (rows map q size) all_agree; answered = answered_is }

-- ---- the contract leaves no choice

-- the answer of a number and a found
abbrev answer_of : ℕ → ℕ → Result ℕ Refusal
answer_of n f =
    cond (eqb n 1) (Err PointOutside)
    (cond (eqb n 2) (Err CountOutside)
    (cond (eqb n 3) (Err BadgeRefused) (cond (eqb n 4) (Err RoomTooShort) (cond (eqb n 5) (Err MapRefused) (Ok f)))))

answer_back : (a : Result ℕ Refusal) → a ≡ answer_of (answer_number a) (answer_found a)
answer_back (Err PointOutside) = refl
answer_back (Err CountOutside) = refl
answer_back (Err BadgeRefused) = refl
answer_back (Err RoomTooShort) = refl
answer_back (Err MapRefused) = refl
answer_back (Ok n) = refl

pub reply_unique : (map : List ℕ) (q : Question) (room : List ℕ) (a b : Result ℕ Refusal) (after after' : List ℕ)
    → given a after ≡ reply_of map q room → given b after' ≡ reply_of map q room → (a ≡ b) × (after ≡ after')
reply_unique map q room a b after after' h g =
    let e : given a after ≡ given b after' = h ∙ sym g in (
      answer_back a ∙ ap (λ (r : Reply). answer_of r.number r.found) e ∙ sym (answer_back b),
      ap (λ (r : Reply). r.room) e,
    )
