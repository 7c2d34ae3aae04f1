-- A number within its limits, as a value of the question's types and back. Assumes nothing.
use mathlib.Core.Path.{◌≡◌, refl, ap}
use mathlib.Core.Bool.{Bool, true, false}
use Prim.Native.Nat.{ℕ}
use native.Mathlib.Omega.{arith}
use Rattle.std.proofs.Common.{Some, None}
use Rattle.reader.specs.declared.number.Limits.{Limits}
use Rattle.reader.specs.Fields.{Number, number, SizeIn, InLimits}
use Rattle.reader.specs.QuestionText.{i32_limits, signed_number, plain_number, whole, whole_of, size_of}

pub whole_back : (n : Number) → InLimits i32_limits n → signed_number (whole_of n) ≡ n
whole_back (Some n) w = by n.minus n.size w
  where
    by : (minus : Bool) (s : ℕ) → SizeIn i32_limits minus s → signed_number (whole minus s) ≡ number minus s
    by true s v = ap (λ (k : ℕ). number true k) (omega (arith, v.0))
    by false s v = refl
whole_back None w = absurd w

-- a number with nothing below 0 has no minus
module _ (l : Limits) (unsigned : l.least ≡ 0) where
  pub size_back : (n : Number) → InLimits l n → plain_number (size_of n) ≡ n
  size_back (Some n) w = by n.minus n.size w
    where
      by : (minus : Bool) (s : ℕ) → SizeIn l minus s → plain_number s ≡ number minus s
      by true s v = absurd (omega (arith, unsigned, v.0, v.1))
      by false s v = refl
  size_back None w = absurd w
