-- What reading a text keeps to: every text is read as `ReadAs` says, a question's own text is read as that question, no two
-- questions have one text, and no text of a question is long. Assumes nothing.
use mathlib.Core.Path.{◌≡◌, refl, sym, ap, ◌∙◌}
use mathlib.Core.List.{List, []}
use Prim.Native.Nat.{ℕ, ◌+◌, ◌^◌, ◌≤◌, ◌<◌}
use native.Mathlib.Nat.{lt_of_le_of_lt}
use native.Mathlib.Omega.{arith}
use mathlib.Core.Bool.{Bool, true, false}
use lib.Dec.{lit<}
use lib.ListN.{length, length-append}
use Rattle.std.proofs.Common.{Option, Some, None}
use Rattle.decimal.specs.Decimal.{decimal}
use Rattle.decimal.proofs.Laws.{decimal_length}
use Rattle.question.specs.declared.Question.{Question}
use Rattle.reader.specs.declared.number.Limits.{Limits}
use Rattle.reader.specs.Fields.{Number, number, numeral, SizeIn, InLimits, Field, field_then}
use Rattle.reader.specs.QuestionText.{i32_limits, u32_limits, u64_limits, question_fields, signed_number, plain_number, question_numbers, question_text, Fitting, ReadAs, size_of, question_of, question_in}
use Rattle.reader.proofs.Tabled.{chain_in, fields_once}
use Rattle.reader.proofs.Questions.{question_same, answer_right}

-- what `question_in` gives is right of every text
pub reading_right : (t : List ℕ) → ReadAs t (question_in t)
unfolding question_in
reading_right t = answer_right t _ _ _ _ _ _ (chain_in question_fields t)

-- two questions with one text are one
pub text_once : (p q : Question) → Fitting p → Fitting q → question_text p ≡ question_text q → p ≡ q
unfolding question_text
text_once p q f g e =
    sym (question_same p) ∙ ap question_of (fields_once question_fields (question_numbers p) (question_numbers q) [] [] f g e).0 ∙ question_same q

-- a text has one reading, so that `ReadAs` says all of `question_in`
pub reading_once : (t : List ℕ) (r s : Option Question) → ReadAs t r → ReadAs t s → r ≡ s
reading_once t (Some p) (Some q) f g = ap Some (text_once p q f.0 g.0 (sym f.1 ∙ g.1))
reading_once t (Some p) None f g = absurd (g p f.0 f.1)
reading_once t None (Some q) f g = absurd (f q g.0 g.1)
reading_once t None None f g = refl

-- a question's own text is read as that question
pub read_back : (q : Question) → Fitting q → question_in (question_text q) ≡ Some q
read_back q f = reading_once (question_text q) (question_in (question_text q)) (Some q) (reading_right (question_text q)) (f, refl)

-- ---- how long a question's text is

-- what is in its limits has no more digits than document 01 allows, so that no test counts them: ten, or twenty for u64
pub digits_few : (k : ℕ) (l : Limits) (n : Number) → 0 < k → l.most < 10 ^ k → l.least < 10 ^ k → InLimits l n → length (decimal (size_of n)) ≤ k
digits_few k l (Some n) p m h w = decimal_length k n.size (by n.minus n.size w) p
  where
    by : (minus : Bool) (s : ℕ) → SizeIn l minus s → s < 10 ^ k
    by true s v = lt_of_le_of_lt v.1 h
    by false s v = lt_of_le_of_lt v m
digits_few k l None p m h w = absurd w

numeral_short : (n : Number) → length (numeral n) ≤ length (decimal (size_of n)) + 1
numeral_short (Some n) = by n.minus
  where
    by : (minus : Bool) → length (numeral (number minus n.size)) ≤ length (decimal n.size) + 1
    by true = omega arith
    by false = omega arith
numeral_short None = omega arith

field_length : (f : Field) (n : Number) (rest : List ℕ) → length (field_then f n rest) ≡ length f.key + length (numeral n) + 1 + length rest
unfolding field_then
field_length f n rest = simp length-append (omega arith)

-- the sum of the lines, each at its longest
pub text_short : (q : Question) → Fitting q → length (question_text q) ≤ 108
unfolding question_text
text_short q f =
    let signed : (n : Number) → InLimits i32_limits n → length (numeral n) ≤ 11 =
    λ n w. omega (arith, numeral_short n, digits_few 10 i32_limits n (lit< tt) (lit< tt) (lit< tt) w) in
    let x = signed (signed_number q.from.x) f.0 in
    let y = signed (signed_number q.from.y) f.1.0 in
    let after_y = f.1.1 in
    let k = digits_few 10 u32_limits (plain_number q.k) (lit< tt) (lit< tt) (lit< tt) after_y.0 in
    let badge = digits_few 10 u32_limits (plain_number q.badge.0) (lit< tt) (lit< tt) (lit< tt) after_y.1.0 in
    let after_badge = after_y.1.1 in
    let far = digits_few 20 u64_limits (plain_number q.mark.far.0) (lit< tt) (lit< tt) (lit< tt) after_badge.0 in
    let bay = digits_few 10 u32_limits (plain_number q.mark.bay) (lit< tt) (lit< tt) (lit< tt) after_badge.1.0 in
    simp field_length (omega arith)

-- so a longer text is none, and what comes after 108 bytes need not be read
pub long_bad : (t : List ℕ) → 108 < length t → question_in t ≡ None
long_bad t h =
    reading_once t (question_in t) None (reading_right t) (λ q f e. let s = text_short q f in let l = ap length e in omega arith)
