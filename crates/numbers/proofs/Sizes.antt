-- How large an integer is (`nat_abs`), and how large sums, differences and squares of integers can get.
-- Assumes nothing.
use mathlib.Core.Path.{◌≡◌, refl}
use mathlib.Core.Bool.{Bool, true, false, cond}
use Prim.Native.Nat.{ℕ, zero, suc, ◌+◌, ◌*◌, ◌-◌, ◌≤◌}
use native.Mathlib.Omega.{arith}
use native.Mathlib.Nat.{le_refl}
use lib.Dec.{ltb}
use borrow.Author.Tests.{ltb-true, ltb-false}
use lib.IntN.{ℤ, pos, negsuc, neg_ℤ, nat_abs, sub_ℕ, ◌+ℤ◌, ◌-ℤ◌, ◌*ℤ◌}
use lib.Signed.{mag}

-- what decides whether a width holds z is at most z's size
pub mag_size : (z : ℤ) → mag z ≤ nat_abs z
mag_size (pos n) = le_refl n
mag_size (negsuc n) = omega arith

-- the size of a - b, for two naturals: what a sum of integers computes to
pub apart_size : (a b : ℕ) → nat_abs (sub_ℕ a b) ≡ (a - b) + (b - a)
apart_size a b = by (ltb a b) refl
  where
    by : (t : Bool) → ltb a b ≡ t → nat_abs (cond t (negsuc (b - suc a)) (pos (a - b))) ≡ (a - b) + (b - a)
    by true e = omega (arith, ltb-true a b e)
    by false e = omega (arith, ltb-false a b e)

pub negated_size : (z : ℤ) → nat_abs (neg_ℤ z) ≡ nat_abs z
negated_size (pos zero) = refl
negated_size (pos (suc n)) = refl
negated_size (negsuc n) = refl

pub sum_size : (a b : ℤ) → nat_abs (a +ℤ b) ≤ nat_abs a + nat_abs b
sum_size (pos a) (pos b) = le_refl (a + b)
sum_size (pos a) (negsuc b) = omega (arith, apart_size a (suc b))
sum_size (negsuc a) (pos b) = omega (arith, apart_size b (suc a))
sum_size (negsuc a) (negsuc b) = omega arith

pub difference_size : (a b : ℤ) → nat_abs (a -ℤ b) ≤ nat_abs a + nat_abs b
difference_size a b = omega (arith, sum_size a (neg_ℤ b), negated_size b)

pub twice_size : (z : ℤ) → nat_abs (pos 2 *ℤ z) ≡ 2 * nat_abs z
twice_size (pos n) = refl
twice_size (negsuc n) = negated_size (pos (2 * suc n))

-- a square is the square of the size
pub square_size : (z : ℤ) → z *ℤ z ≡ pos (nat_abs z * nat_abs z)
square_size (pos n) = refl
square_size (negsuc n) = refl
