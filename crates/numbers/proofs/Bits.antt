-- The set bits of a number, counted by place. Assumes nothing.
use mathlib.Core.Path.{◌≡◌, refl, sym, ap, ◌∙◌}
use mathlib.Core.Bool.{Bool, true, false}
use Prim.Native.Nat.{ℕ, zero, suc, ◌/◌, ◌%◌, ◌^◌, ◌<◌}
use native.Mathlib.Omega.{arith, pow_step}
use native.Mathlib.Nat.{div-div-eq-div-mul}
use lib.Count.{ones, ones_step}
use lib.Dec.{eqb}
use borrow.Author.Tests.{eqb-true, eqb-false}
use Rattle.numbers.specs.Below.{one, count_below}
use Rattle.numbers.proofs.Below.{count_agree}
use Rattle.numbers.proofs.Counting.{count_first}

-- a bit is 1 or 0
bit_one : (n : ℕ) → one (eqb (n % 2) 1) ≡ n % 2
bit_one n = by (eqb (n % 2) 1) refl
  where
    by : (t : Bool) → eqb (n % 2) 1 ≡ t → one t ≡ n % 2
    by true e = sym (eqb-true (n % 2) 1 e)
    by false e = (let d = eqb-false (n % 2) 1 e in omega arith)

pub ones_bits : (k n : ℕ) → n < 2 ^ k → ones n ≡ count_below (λ i. eqb (n / 2 ^ i % 2) 1) k
unfolding ones
ones_bits zero n h = let e : n ≡ 0 = omega arith in rw e
ones_bits (suc k) n h =
    let half : n / 2 < 2 ^ k = omega (arith, pow_step 2 k) in
    let whole : n / 2 ^ 0 ≡ n = omega arith in
    omega (arith, ones_step n, ones_bits k (n / 2) half, count_first (λ i. eqb (n / 2 ^ i % 2) 1) k, count_agree _ _ k (λ i l. ap (λ (x : ℕ). eqb (x % 2) 1) (next i)), bit_one (n / 2 ^ 0), ap (λ (x : ℕ). x % 2) whole)
  where
    next : (i : ℕ) → n / 2 ^ suc i ≡ n / 2 / 2 ^ i
    next i = ap (λ (x : ℕ). n / x) (pow_step 2 i) ∙ sym (div-div-eq-div-mul n 2 (2 ^ i))
