-- The question's own table: its numbers give the question back, and a chain of readings over it gives what `ReadAs` says.
-- Assumes nothing.
use mathlib.Core.Path.{◌≡◌, refl, sym, ap, subst, ◌∙◌}
use mathlib.Core.List.{List, [], ◌∷◌}
use mathlib.Core.Bool.{Bool, true, false, cond, ◌&&◌, false≢true}
use Prim.Native.Nat.{ℕ}
use native.Mathlib.Omega.{arith}
use lib.IntN.{ℤ, pos, negsuc}
use lib.ListN.{length}
use borrow.Author.Tests.{eqb-true}
use Rattle.std.proofs.Common.{Some, None}
use Rattle.question.specs.declared.Question.{Question}
use Rattle.reader.specs.Fields.{Number, fields_then, AllInLimits}
use Rattle.reader.specs.Scan.{Scan}
use Rattle.reader.specs.Chain.{Chain, numbers_in, rest_of, all_numbers, is_nil}
use Rattle.reader.specs.QuestionText.{u32_limits, u64_limits, question_fields, signed_number, question_numbers, question_text, Fitting, ReadAs, whole_of, question_of}
use Rattle.reader.proofs.Limited.{whole_back, size_back}
use Rattle.reader.proofs.Tabled.{chain_complete, chain_sound, limits_numbers}

-- ---- a question and its numbers

whole_same : (z : ℤ) → whole_of (signed_number z) ≡ z
whole_same (pos n) = refl
whole_same (negsuc n) = ap negsuc (omega arith)

pub question_same : (q : Question) → question_of (question_numbers q) ≡ q
question_same q = rw (whole_same q.from.x, whole_same q.from.y)

pub numbers_same : (x y k badge far bay : Number) → AllInLimits question_fields (x ∷ y ∷ k ∷ badge ∷ far ∷ bay ∷ [])
    → question_numbers (question_of (x ∷ y ∷ k ∷ badge ∷ far ∷ bay ∷ [])) ≡ x ∷ y ∷ k ∷ badge ∷ far ∷ bay ∷ []
numbers_same x y k badge far bay w =
    let after_y = w.1.1 in
    let after_badge = after_y.1.1 in
    rw (
      whole_back x w.0,
      whole_back y w.1.0,
      size_back u32_limits refl k after_y.0,
      size_back u32_limits refl badge after_y.1.0,
      size_back u64_limits refl far after_badge.0,
      size_back u32_limits refl bay after_badge.1.0,
    )

-- ---- what is read of a text

nil_is : (l : List ℕ) → is_nil l ≡ true → l ≡ []
nil_is [] e = refl
nil_is (b ∷ t) e = absurd (omega (arith, eqb-true (length (b ∷ t)) 0 e))

module _ (text : List ℕ) where
  module _ (ss : List Scan) (h : Chain question_fields text ss) where
    -- a question's own text is read as its numbers
    own_read : (q : Question) → Fitting q → text ≡ question_text q → (numbers_in ss ≡ question_numbers q) × (rest_of text ss ≡ [])
    unfolding question_text
    own_read q f e = chain_complete question_fields text ss (question_numbers q) [] h f e

    pub wrong_bad : all_numbers (numbers_in ss) ≡ false → ReadAs text None
    wrong_bad w q f e =
        false≢true (sym w ∙ ap all_numbers (own_read q f e).0 ∙ limits_numbers question_fields (question_numbers q) f)

    pub more_bad : is_nil (rest_of text ss) ≡ false → ReadAs text None
    more_bad w q f e = false≢true (sym w ∙ ap is_nil (own_read q f e).1)

  module _ (a b c d e f : Scan) (h : Chain question_fields text (a ∷ b ∷ c ∷ d ∷ e ∷ f ∷ [])) where
    abbrev read : List Scan
    read = a ∷ b ∷ c ∷ d ∷ e ∷ f ∷ []

    pub all_read : all_numbers (numbers_in read) ≡ true → is_nil f.rest ≡ true → ReadAs text (Some (question_of (numbers_in read)))
    unfolding question_text
    all_read w o =
        let p = chain_sound question_fields text read h w in
        let back = numbers_same a.number b.number c.number d.number e.number f.number p.1 in
        let whole = ap (fields_then question_fields (numbers_in read)) (nil_is f.rest o) in (
          subst (AllInLimits question_fields) (sym back) p.1,
          p.0 ∙ whole ∙ ap (λ (ns : List Number). fields_then question_fields ns []) (sym back),
        )

    answer_by : (p o : Bool) → all_numbers (numbers_in read) ≡ p → is_nil f.rest ≡ o
        → ReadAs text (cond (p && o) (Some (question_of (numbers_in read))) None)
    answer_by true true p o = all_read p o
    answer_by true false p o = more_bad read h o
    answer_by false o p n = wrong_bad read h p

    pub answer_right : ReadAs text (cond (all_numbers (numbers_in read) && is_nil f.rest) (Some (question_of (numbers_in read))) None)
    answer_right = answer_by (all_numbers (numbers_in read)) (is_nil f.rest) refl refl
