-- The reply, case by case: each refusal where it is due, and the page where none is. Assumes nothing.
use Prim.Native.Nat.{ℕ}
use mathlib.Core.Path.{◌≡◌, sym, ap, ◌∙◌}
use mathlib.Core.Bool.{true, false}
use mathlib.Core.List.{List}
use native.Mathlib.Omega.{arith}
use lib.ListN.{length}
use borrow.Author.Tests.{eqb-true}
use Rattle.numbers.specs.Tried.{first_given}
use Rattle.floor.specs.View.{view_of}
use Rattle.rules.specs.Verdicts.{number_of, verdict_of, Keeps}
use Rattle.nearest.proofs.Checked.{number_keeps}
use Rattle.question.specs.declared.Question.{Question}
use Rattle.ask.specs.declared.Refusal.{Refusal}
use Rattle.ask.specs.declared.Refusal.TheVariants.{PointOutside, CountOutside, BadgeRefused, RoomTooShort, MapRefused}
use Rattle.ask.specs.Told.{page_of}
use Rattle.ask.specs.Reply.{refusal_number, accepted, own_tests, refused, answered, reply_of}
use Rattle.ask.proofs.Answers.{refusal_own, refusal_map, refusal_none, reply_page, reply_refused}

pub accepted_keeps : (map : List ℕ) → accepted map ≡ true → Keeps (view_of map)
accepted_keeps map e = number_keeps map (eqb-true (number_of (verdict_of map)) 0 e)

-- no refusal has the number 0
pub refusal_some : (r : Refusal) → refusal_number r ≡ 0 → ⊥
refusal_some PointOutside e = omega arith
refusal_some CountOutside e = omega arith
refusal_some BadgeRefused e = omega arith
refusal_some RoomTooShort e = omega arith
refusal_some MapRefused e = omega arith

module _ (map : List ℕ) (q : Question) (room : List ℕ) where
  abbrev own : ℕ
  own = first_given (own_tests q (length room))

  -- refused by itself, refused on the map, or answered
  pub refused_own : (own ≡ 0 → ⊥) → refused own room ≡ reply_of map q room
  refused_own ne =
      let e = refusal_own q (length room) map ne in
      sym (reply_refused map q room (λ z. ne (sym e ∙ z)) ∙ ap (λ (n : ℕ). refused n room) e)

  pub refused_map : own ≡ 0 → accepted map ≡ false → refused 5 room ≡ reply_of map q room
  refused_map z a =
      let e = refusal_map q (length room) map z a in
      sym (reply_refused map q room (λ n. absurd (omega (arith, e, n))) ∙ ap (λ (n : ℕ). refused n room) e)

  pub answered_page : own ≡ 0 → accepted map ≡ true → answered (page_of map q) q.k room ≡ reply_of map q room
  answered_page z a = sym (reply_page map q room (refusal_none q (length room) map z a))
