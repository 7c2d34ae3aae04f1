-- How many numbers below a bound pass a test: counts put together, split, and compared. Assumes nothing.
use mathlib.Core.Path.{◌≡◌, refl, sym, ap, ◌∙◌}
use mathlib.Core.Bool.{Bool, true, false, not, ◌&&◌, true≢false}
use Prim.Native.Nat.{ℕ, zero, suc, ◌+◌, ◌<◌, ◌≤◌}
use native.Mathlib.Omega.{arith}
use lib.Dec.{eqb}
use borrow.Author.Tests.{eqb-true, eq-eqb}
use Rattle.numbers.specs.Below.{one, count_below}
use Rattle.std.proofs.lemmas.Bool.{and_parts}

-- ---- a count in parts

module _ (p : ℕ → Bool) where
  pub count_none : (n : ℕ) → ((k : ℕ) → k < n → p k ≡ true → ⊥) → count_below p n ≡ 0
  count_none zero h = refl
  count_none (suc n) h = rw (count_none n (λ k l. h k (omega arith))) (by (p n) refl)
    where
      by : (t : Bool) → p n ≡ t → 0 + one t ≡ 0
      by true e = absurd (h n (omega arith) e)
      by false e = omega arith

  pub count_add : (m n : ℕ) → count_below p (m + n) ≡ count_below p m + count_below (λ i. p (m + i)) n
  count_add m zero = let e : m + zero ≡ m = omega arith in rw e (omega arith)
  count_add m (suc n) = let e : m + suc n ≡ suc (m + n) = omega arith in rw e (omega (arith, count_add m n))

  -- the first number apart
  pub count_first : (n : ℕ) → count_below p (suc n) ≡ one (p 0) + count_below (λ i. p (suc i)) n
  count_first zero = omega arith
  count_first (suc n) = omega (arith, count_first n)

  -- at most one number passes
  pub count_one : (n : ℕ) → ((j k : ℕ) → j < n → k < n → p j ≡ true → p k ≡ true → j ≡ k) → count_below p n ≤ 1
  count_one zero h = omega arith
  count_one (suc n) h = by (p n) refl (count_one n (λ j k a b. h j k (omega arith) (omega arith)))
    where
      alone : p n ≡ true → (k : ℕ) → k < n → p k ≡ true → ⊥
      alone e k l f = omega (arith, h k n (omega arith) (omega arith) f e)

      by : (t : Bool) → p n ≡ t → count_below p n ≤ 1 → count_below p n + one t ≤ 1
      by false e ih = omega arith
      by true e ih = omega (arith, count_none n (alone e))

-- a test that is one of two others, and never both
pub count_sum : (p q r : ℕ → Bool) → ((k : ℕ) → one (p k) ≡ one (q k) + one (r k)) → (n : ℕ) → count_below p n ≡ count_below q n + count_below r n
count_sum p q r h zero = refl
count_sum p q r h (suc n) = omega (arith, count_sum p q r h n, h n)

-- those that pass another test, too, and those that do not
count_parts : (p t : ℕ → Bool) (n : ℕ) → count_below p n ≡ count_below (λ j. p j && t j) n + count_below (λ j. p j && not (t j)) n
count_parts p t = count_sum p (λ j. p j && t j) (λ j. p j && not (t j)) (λ k. parts (p k) (t k))
  where
    parts : (a b : Bool) → one a ≡ one (a && b) + one (a && not b)
    parts true true = refl
    parts true false = refl
    parts false b = refl

-- ---- what is led to different places is no more than there are places

-- every number below m that passes p is led by f to a number below n that passes r, and no two to the same
module _ (f : ℕ → ℕ) (r : ℕ → Bool) (m : ℕ) where
  abbrev Led : ℕ → (ℕ → Bool) → Type 0
  Led n p = (j : ℕ) → j < m → p j ≡ true → (f j < n) × (r (f j) ≡ true)

  abbrev Apart : (ℕ → Bool) → Type 0
  Apart p = (i j : ℕ) → i < m → j < m → p i ≡ true → p j ≡ true → f i ≡ f j → i ≡ j

  -- those led to one place are at most as many as pass there
  led_there : (n : ℕ) (p : ℕ → Bool) → Led (suc n) p → Apart p → count_below (λ j. p j && eqb (f j) n) m ≤ one (r n)
  led_there n p led apart = by (r n) refl
    where
      here : (j : ℕ) → (p j && eqb (f j) n) ≡ true → (p j ≡ true) × (f j ≡ n)
      here j e = let b = and_parts (p j) (eqb (f j) n) e in (b.0, eqb-true (f j) n b.1)

      by : (t : Bool) → r n ≡ t → count_below (λ j. p j && eqb (f j) n) m ≤ one t
      by true e =
          count_one (λ j. p j && eqb (f j) n) m (λ i j a b x y.
          apart i j a b (here i x).0 (here j y).0 ((here i x).1 ∙ sym (here j y).1))
      by false e =
          omega (
            arith,
            count_none (λ j. p j && eqb (f j) n) m (λ j l x.
                true≢false (sym (led j l (here j x).0).1 ∙ ap r (here j x).1 ∙ e)),
          )

  pub count_led : (n : ℕ) (p : ℕ → Bool) → Led n p → Apart p → count_below p m ≤ count_below r n
  count_led zero p led apart = omega (arith, count_none p m (λ j l e. omega (arith, (led j l e).0)))
  count_led (suc n) p led apart =
      let rest = count_led n (λ j. p j && not (eqb (f j) n)) (λ j l e. lower j l (other j e)) (λ i j a b x y. apart i j a b (other i x).0 (other j y).0) in
      omega (arith, rest, led_there n p led apart, count_parts p (λ j. eqb (f j) n) m)
    where
      other : (j : ℕ) → (p j && not (eqb (f j) n)) ≡ true → (p j ≡ true) × (f j ≡ n → ⊥)
      other j e =
          let b = and_parts (p j) (not (eqb (f j) n)) e in
          (b.0, λ q. true≢false (sym b.1 ∙ ap not (eq-eqb (f j) n q)))

      lower : (j : ℕ) → j < m → (p j ≡ true) × (f j ≡ n → ⊥) → (f j < n) × (r (f j) ≡ true)
      lower j l o =
          let a = led j l o.0 in
          let x = a.0 in
          let d = o.1 in
          (omega arith, a.1)
