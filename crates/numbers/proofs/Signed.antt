-- Signed numbers as the code has them: a signed local holds bits, so a fact speaks of what is read back from them,
-- `to_z w (of_z w z)`. Here are the casts from `i32` to `i64`, and the operations on such operands. Assumes nothing.
use mathlib.Core.Path.{◌≡◌, ap, ◌∙◌}
use mathlib.Core.Bool.{Bool}
use Prim.Native.Nat.{◌*◌, ◌^◌, ◌<◌, ◌≤◌}
use native.Mathlib.Omega.{arith}
use native.Mathlib.Nat.{le_of_lt, mul-le-mul}
use lib.Dec.{T}
use lib.IntN.{ℤ, pos, nat_abs, ◌+ℤ◌, ◌-ℤ◌, ◌*ℤ◌}
use lib.Signed.{lt_z, le_z, non_neg, nat_abs-le}
use mir.Syntax.{Width, w32, w64}
use mir.Val.{Fits, SFits, to_z, of_z}
use mir.Facts.{to_z-of_z, sfits_widen}
use Rattle.numbers.proofs.Sizes.{mag_size, sum_size, difference_size, twice_size, square_size}

-- ---- reading back

module _ {w : Width} {a b : ℤ} (fa : SFits w a) (fb : SFits w b) where
  -- a test of what is read back is the test of the numbers
  pub lt_read : {t : Bool} → lt_z (to_z w (of_z w a)) (to_z w (of_z w b)) ≡ t → lt_z a b ≡ t
  lt_read e = rw (to_z-of_z fa, to_z-of_z fb) at e

  pub le_read : {t : Bool} → le_z (to_z w (of_z w a)) (to_z w (of_z w b)) ≡ t → le_z a b ≡ t
  le_read e = rw (to_z-of_z fa, to_z-of_z fb) at e

-- an `i32` as an `i64`
pub widens : {z : ℤ} → SFits w32 z → SFits w64 (to_z w32 (of_z w32 z))
widens f = rw (to_z-of_z f) (sfits_widen tt f)

pub wide : {z : ℤ} → SFits w32 z → to_z w64 (of_z w64 (to_z w32 (of_z w32 z))) ≡ z
wide {z} f = ap (λ (y : ℤ). to_z w64 (of_z w64 y)) (to_z-of_z f) ∙ to_z-of_z {w = w64} (sfits_widen tt f)

-- ---- sums, differences and doubles of `i32` operands at 64 bits: they fit, and are read back as they are

pub small_fits : (z : ℤ) → nat_abs z < 2 ^ 63 → SFits w64 z
small_fits z h = record { sfits = omega (arith, mag_size z) }

size_32 : {z : ℤ} → SFits w32 z → nat_abs z ≤ 2 ^ 31
size_32 {z} f = nat_abs-le z f.sfits

module _ {a b : ℤ} (fa : SFits w32 a) (fb : SFits w32 b) where
  pub difference_fits : SFits w64 (to_z w64 (of_z w64 (to_z w32 (of_z w32 a))) -ℤ to_z w64 (of_z w64 (to_z w32 (of_z w32 b))))
  difference_fits =
      rw (wide fa, wide fb) (small_fits (a -ℤ b) (omega (arith, difference_size a b, size_32 fa, size_32 fb)))

  pub difference_is : to_z w64 (of_z w64 (to_z w64 (of_z w64 (to_z w32 (of_z w32 a))) -ℤ to_z w64 (of_z w64 (to_z w32 (of_z w32 b))))) ≡ a -ℤ b
  difference_is = to_z-of_z difference_fits ∙ rw (wide fa, wide fb)

  pub sum_fits : SFits w64 (to_z w64 (of_z w64 (to_z w32 (of_z w32 a))) +ℤ to_z w64 (of_z w64 (to_z w32 (of_z w32 b))))
  sum_fits = rw (wide fa, wide fb) (small_fits (a +ℤ b) (omega (arith, sum_size a b, size_32 fa, size_32 fb)))

  pub sum_is : to_z w64 (of_z w64 (to_z w64 (of_z w64 (to_z w32 (of_z w32 a))) +ℤ to_z w64 (of_z w64 (to_z w32 (of_z w32 b))))) ≡ a +ℤ b
  sum_is = to_z-of_z sum_fits ∙ rw (wide fa, wide fb)

module _ {a : ℤ} (fa : SFits w32 a) where
  pub twice_fits : SFits w64 (pos 2 *ℤ to_z w64 (of_z w64 (to_z w32 (of_z w32 a))))
  twice_fits = rw (wide fa) (small_fits (pos 2 *ℤ a) (omega (arith, twice_size a, size_32 fa)))

  pub twice_is : to_z w64 (of_z w64 (pos 2 *ℤ to_z w64 (of_z w64 (to_z w32 (of_z w32 a))))) ≡ pos 2 *ℤ a
  twice_is = to_z-of_z twice_fits ∙ rw (wide fa)

-- ---- the square of x, which is read back as z

module _ {x z : ℤ} (e : x ≡ z) (h : nat_abs z < 2 ^ 31) where
  square_small : nat_abs z * nat_abs z < 2 ^ 63
  square_small = omega (arith, mul-le-mul (le_of_lt h) (le_of_lt h))

  pub square_fits : SFits w64 (x *ℤ x)
  square_fits = rw (e, square_size z) (record { sfits = square_small })

  square_read : to_z w64 (of_z w64 (x *ℤ x)) ≡ pos (nat_abs z * nat_abs z)
  square_read = to_z-of_z square_fits ∙ rw e (square_size z)

  pub square_casts : T (non_neg (to_z w64 (of_z w64 (x *ℤ x)))) × Fits w64 (nat_abs (to_z w64 (of_z w64 (x *ℤ x))))
  square_casts = rw square_read (tt, record { fits = omega (arith, square_small) })

  pub square_is : nat_abs (to_z w64 (of_z w64 (x *ℤ x))) ≡ nat_abs (z *ℤ z)
  square_is = rw (square_read, square_size z)

-- what `search` needs for a cast, a sum, a difference or a double of `i32` operands at 64 bits
pub ruleset signed = (widens, twice_fits, sum_fits, difference_fits, wide, twice_is, sum_is, difference_is, to_z-of_z)
