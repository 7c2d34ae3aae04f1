-- Squares of naturals: how a quotient tells of one, their order, and the whole root; and powers of two.
-- Assumes nothing.
use mathlib.Core.Path.{◌≡◌}
use Prim.Native.Nat.{ℕ, zero, suc, ◌+◌, ◌*◌, ◌-◌, ◌/◌, ◌^◌, ◌<◌, ◌≤◌}
use native.Mathlib.Omega.{arith, pow_step}
use native.Mathlib.Nat.{mul-le-mul, div-lt_iff_lt-mul, le-div_iff_mul-le, lt_of_lt_of_le}
use native.Mathlib.Decide.{dec_lt}

-- n² passes d exactly when the quotient d / n falls short of n, so no square need be formed that may not fit
pub quotient_below : (d n : ℕ) → 0 < n → d / n < n → d < n * n
quotient_below d n p h = (div-lt_iff_lt-mul p).0 h

pub quotient_reaches : (d n : ℕ) → 0 < n → n ≤ d / n → n * n ≤ d
quotient_reaches d n p h = (le-div_iff_mul-le p).0 h

pub square_more : (d m n : ℕ) → d < m * m → m ≤ n → d < n * n
square_more d m n h k = lt_of_lt_of_le h (mul-le-mul k k)

-- numbers are in the order of their squares
pub root_below_lem : (m n d : ℕ) → m * m ≤ d → d < n * n → m < n
root_below_lem m n d h k = elim (dec_lt m n) [ yes p ↦ p | no q ↦ absurd (over q) ]
  where
    over : (m < n → ⊥) → ⊥
    over q =
        let b : n ≤ m = omega arith in
        omega (arith, mul-le-mul b b)

-- at most one number has its square at most d and the next square above d
pub root_unique : (d r s : ℕ) → r * r ≤ d → d < (r + 1) * (r + 1) → s * s ≤ d → d < (s + 1) * (s + 1) → r ≡ s
root_unique d r s h k i j = omega (arith, root_below_lem r (s + 1) d h j, root_below_lem s (r + 1) d i k)

-- a power of two is twice the power before it
pub power_twice : (n : ℕ) → 0 < n → 2 ^ n ≡ 2 * 2 ^ (n - 1)
power_twice zero h = absurd (omega arith)
power_twice (suc n) h =
    let e : suc n - 1 ≡ n = omega arith in
    rw e (pow_step 2 n)
