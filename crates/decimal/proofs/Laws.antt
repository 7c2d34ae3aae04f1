-- A decimal digit by digit, and how long it is. Assumes nothing.
use mathlib.Core.Path.{◌≡◌, refl, ap, ◌∙◌}
use mathlib.Core.List.{[], ◌∷◌, ◌++◌}
use mathlib.Core.Bool.{Bool, true, false}
use Prim.Native.Nat.{ℕ, zero, suc, ◌+◌, ◌*◌, ◌/◌, ◌%◌, ◌^◌, ◌≤◌, ◌<◌}
use native.Mathlib.Omega.{arith, pow_step}
use native.Mathlib.Nat.{lt_of_lt_of_le}
use lib.Dec.{ltb, lit<, lit≤}
use lib.ListN.{length, length-append}
use borrow.Author.Tests.{lt-ltb, le-ltb, ltb-true, ltb-false}
use Rattle.decimal.specs.Decimal.{decimal_by, decimal}

-- how many digits are allowed does not show, if they are enough
same_step : (f g n : ℕ) (t : Bool) → ltb n 10 ≡ t → n < suc f → n < suc g
    → ((m : ℕ) → m < f → m < g → decimal_by f m ≡ decimal_by g m) → decimal_by (suc f) n ≡ decimal_by (suc g) n
unfolding decimal_by
same_step f g n true e h k ih = simp e
same_step f g n false e h k ih = let l = ltb-false n 10 e in simp (e, ih (n / 10) (omega arith) (omega arith))

allowed_same : (f g n : ℕ) → n < f → n < g → decimal_by f n ≡ decimal_by g n
allowed_same zero g n h k = absurd (omega arith)
allowed_same (suc f) zero n h k = absurd (omega arith)
allowed_same (suc f) (suc g) n h k = same_step f g n (ltb n 10) refl h k (λ m p q. allowed_same f g m p q)

pub decimal_one : (n : ℕ) → n < 10 → decimal n ≡ (48 + n) ∷ []
unfolding decimal decimal_by
decimal_one n h = simp (lt-ltb n 10 h)

pub decimal_more : (n : ℕ) → 10 ≤ n → decimal n ≡ decimal (n / 10) ++ ((48 + n % 10) ∷ [])
unfolding decimal decimal_by
decimal_more n h = simp (le-ltb n 10 h, allowed_same n (suc (n / 10)) (n / 10) (omega arith) (omega arith))

pub decimal_grow : (n d : ℕ) → 0 < n → d < 10 → decimal (10 * n + d) ≡ decimal n ++ ((48 + d) ∷ [])
decimal_grow n d p h =
    let q : (10 * n + d) / 10 ≡ n = omega arith in
    let r : (10 * n + d) % 10 ≡ d = omega arith in
    decimal_more (10 * n + d) (omega arith) ∙ rw (q, r)

-- a number below 10 ^ k has at most k digits
length_step : (k n : ℕ) (t : Bool) → ltb n 10 ≡ t → n < 10 ^ suc k → ((m : ℕ) → m < 10 ^ k → 0 < k → length (decimal m) ≤ k)
    → length (decimal n) ≤ suc k
length_step k n true e h ih = omega (arith, ap length (decimal_one n (ltb-true n 10 e)))
length_step zero n false e h ih = absurd (omega (arith, ltb-false n 10 e))
length_step (suc k) n false e h ih =
    let p = pow_step 10 (suc k) in
    let d = ap length (decimal_more n (ltb-false n 10 e)) ∙ length-append (decimal (n / 10)) ((48 + n % 10) ∷ []) in
    omega (arith, d, ih (n / 10) (omega arith) (omega arith))

pub decimal_length : (k n : ℕ) → n < 10 ^ k → 0 < k → length (decimal n) ≤ k
decimal_length zero n h p = absurd (omega arith)
decimal_length (suc k) n h p = length_step k n (ltb n 10) refl h (λ m g q. decimal_length k m g q)

pub decimal_short : (n : ℕ) → n < 2 ^ 64 → length (decimal n) ≤ 20
decimal_short n h = decimal_length 20 n (lt_of_lt_of_le h (lit≤ tt)) (lit< tt)
