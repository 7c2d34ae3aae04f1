-- From order in ℤ to order in ℕ: an integer moved up by K, where K is above the size of every integer in question.
-- There `omega` proves what is linear in them. Assumes nothing.
use mathlib.Core.Path.{◌≡◌}
use mathlib.Core.Bool.{true, false, true≢false, false≢true}
use Prim.Native.Nat.{ℕ, zero, suc, ◌+◌, ◌-◌, ◌<◌, ◌≤◌}
use native.Mathlib.Omega.{arith}
use lib.Dec.{leb→le}
use borrow.Author.Tests.{ltb-true, ltb-false}
use lib.IntN.{ℤ, pos, negsuc, nat_abs, ◌-ℤ◌}
use lib.Signed.{mag, lt_z, ◌≤ℤ◌}
use Rattle.numbers.proofs.Sizes.{apart_size}

unfoldable pub up : ℕ → ℤ → ℕ
up K (pos n) = K + n
up K (negsuc n) = K - suc n

module _ (K : ℕ) where
  pub up_lt : (a b : ℤ) → mag a < K → mag b < K → lt_z a b ≡ true → up K a < up K b
  unfolding up
  up_lt (pos a) (pos b) h k e = omega (arith, ltb-true a b e)
  up_lt (pos a) (negsuc b) h k e = absurd (false≢true e)
  up_lt (negsuc a) (pos b) h k e = omega arith
  up_lt (negsuc a) (negsuc b) h k e = omega (arith, ltb-true b a e)

  pub up_nlt : (a b : ℤ) → mag a < K → mag b < K → lt_z a b ≡ false → up K b ≤ up K a
  unfolding up
  up_nlt (pos a) (pos b) h k e = omega (arith, ltb-false a b e)
  up_nlt (pos a) (negsuc b) h k e = omega arith
  up_nlt (negsuc a) (pos b) h k e = absurd (true≢false e)
  up_nlt (negsuc a) (negsuc b) h k e = omega (arith, ltb-false b a e)

  pub up_le : (a b : ℤ) → mag a < K → mag b < K → a ≤ℤ b → up K a ≤ up K b
  unfolding up
  up_le (pos a) (pos b) h k e = omega (arith, leb→le a b e.le)
  up_le (pos a) (negsuc b) h k e = absurd e.le
  up_le (negsuc a) (pos b) h k e = omega arith
  up_le (negsuc a) (negsuc b) h k e = omega (arith, leb→le b a e.le)

  pub up_apart : (a b : ℤ) → mag a < K → mag b < K → nat_abs (a -ℤ b) ≡ (up K a - up K b) + (up K b - up K a)
  unfolding up
  up_apart (pos a) (pos zero) h k = omega arith
  up_apart (pos a) (pos (suc b)) h k = omega (arith, apart_size a (suc b))
  up_apart (pos a) (negsuc b) h k = omega arith
  up_apart (negsuc a) (pos zero) h k = omega (arith, apart_size 0 (suc a))
  up_apart (negsuc a) (pos (suc b)) h k = omega arith
  up_apart (negsuc a) (negsuc b) h k = omega (arith, apart_size (suc b) (suc a))
