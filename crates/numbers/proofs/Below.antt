-- The laws of tests over the numbers below a bound. Assumes nothing.
use mathlib.Core.Path.{◌≡◌, refl, sym, ap, ◌∙◌}
use mathlib.Core.Bool.{Bool, true, false, cond, ◌&&◌, true≢false}
use mathlib.Core.Logic.{◌⊎◌, inl, inr, ⊎_elim}
use Prim.Native.Nat.{ℕ, zero, suc, ◌+◌, ◌<◌, ◌≤◌}
use native.Mathlib.Numerals.{add-one}
use native.Mathlib.Omega.{arith}
use lib.Dec.{ltb}
use borrow.Author.Tests.{ltb-true, ltb-false}
use Rattle.numbers.specs.Below.{all_below, one, count_below, first_fail}
use Rattle.std.proofs.lemmas.Bool.{and_parts}

pub ordered : (a b : ℕ) → (a < b) ⊎ ((a ≡ b) ⊎ (b < a))
ordered zero zero = inr (inl refl)
ordered zero (suc b) = inl (omega arith)
ordered (suc a) zero = inr (inr (omega arith))
ordered (suc a) (suc b) =
    ⊎_elim (λ h. inl (omega arith)) (⊎_elim (λ h. inr (inl (ap suc h))) (λ h. inr (inr (omega arith)))) (ordered a b)

pub le_cases : (a b : ℕ) → (a ≤ b) ⊎ (b < a)
le_cases a b = ⊎_elim (λ h. inl (omega arith)) (⊎_elim (λ h. inl (omega arith)) inr) (ordered a b)

-- below n + 1 is below n, or n
last : (P : ℕ → Type 0) (n k : ℕ) → k < suc n → (k < n → P k) → P n → P k
last P n k h f g = ⊎_elim f (⊎_elim (λ e. rw e g) (λ l. absurd (omega arith))) (ordered k n)

pub one_most : (t : Bool) → one t ≤ 1
one_most true = omega arith
one_most false = omega arith

module _ (p : ℕ → Bool) where
  -- ---- a loop's step

  pub all_more : (i : ℕ) → all_below p (i + 1) ≡ (all_below p i && p i)
  all_more i = rw add-one

  -- a flag that a loop keeps: at its start, after a turn, and at its end
  pub all_step : (i : ℕ) {ok t : Bool} → ok ≡ all_below p i → t ≡ p i → (ok && t) ≡ all_below p (i + 1)
  all_step i d e = rw (all_more i, d, e)

  pub all_end : (i n : ℕ) {ok : Bool} → ok ≡ all_below p i → i ≡ n → ok ≡ all_below p n
  all_end i n d e = d ∙ ap (all_below p) e

  pub count_more : (i : ℕ) → count_below p (i + 1) ≡ count_below p i + one (p i)
  count_more i = rw add-one

  -- ---- all

  pub all_sound : (n : ℕ) → all_below p n ≡ true → (k : ℕ) → k < n → p k ≡ true
  all_sound zero e k h = absurd (omega arith)
  all_sound (suc n) e k h =
      let b = and_parts (all_below p n) (p n) e in
      last (λ k. p k ≡ true) n k h (all_sound n b.0 k) b.1

  pub all_complete : (n : ℕ) → ((k : ℕ) → k < n → p k ≡ true) → all_below p n ≡ true
  all_complete zero h = refl
  all_complete (suc n) h = rw (all_complete n (λ k l. h k (omega arith)), h n (omega arith))

  -- ---- some

  -- a number that passes
  pub record Found (n : ℕ) : Type 0 where
    pub at : ℕ
    pub below : at < n
    pub passes : p at ≡ true

  found_more : (n : ℕ) → Found n → Found (suc n)
  found_more n f = let b = f.below in record { at = f.at; below = omega arith; passes = f.passes }

  found_last : (n : ℕ) → p n ≡ true → Found (suc n)
  found_last n e = record { at = n; below = omega arith; passes = e }

  -- ---- how many

  one_true : (t : Bool) → t ≡ true → one t ≡ 1
  one_true t e = rw e

  pub count_most : (n : ℕ) → count_below p n ≤ n
  count_most zero = omega arith
  count_most (suc n) = omega (arith, count_most n, one_most (p n))

  -- numbers that do not pass may be skipped
  pub count_skip : (j k : ℕ) → ((i : ℕ) → i < k → p (j + i) ≡ false) → count_below p (j + k) ≡ count_below p j
  count_skip j zero h = let e : j + zero ≡ j = omega arith in rw e
  count_skip j (suc k) h =
      let e : j + suc k ≡ suc (j + k) = omega arith in
      rw (e, h k (omega arith)) (omega (arith, count_skip j k (λ i l. h i (omega arith))))

  pub count_some : (n k : ℕ) → k < n → p k ≡ true → 1 ≤ count_below p n
  count_some zero k h e = absurd (omega arith)
  count_some (suc n) k h e =
      last (λ k. p k ≡ true → 1 ≤ count_below p (suc n)) n k h (λ l e. omega (arith, count_some n k l e)) (λ e. omega (arith, one_true (p n) e)) e

  pub count_two : (n j k : ℕ) → j < k → k < n → p j ≡ true → p k ≡ true → 2 ≤ count_below p n
  count_two zero j k l h a b = absurd (omega arith)
  count_two (suc n) j k l h a b =
      ⊎_elim
      (λ g. omega (arith, count_two n j k l g a b))
      (⊎_elim (λ e. omega (arith, one_true (p n) (ap p (sym e) ∙ b), count_some n j (omega arith) a)) (λ g. absurd (omega arith)))
      (ordered k n)

  pub count_found : (n : ℕ) → 0 < count_below p n → Found n
  count_found zero h = absurd (omega arith)
  count_found (suc n) h = by (count_found n) (p n) refl
    where
      by : (0 < count_below p n → Found n) → (t : Bool) → p n ≡ t → Found (suc n)
      by more true e = found_last n e
      by more false e = found_more n (more (let z : one (p n) ≡ 0 = ap one e in omega arith))

  -- ---- the first that fails

  -- r is the lowest number below n that fails, or n where none does
  pub record First (n r : ℕ) : Type 0 where
    pub within : r ≤ n
    pub before : (k : ℕ) → k < r → p k ≡ true
    pub fails : r < n → p r ≡ false

  clash : (n r s : ℕ) → First n r → First n s → r < s → ⊥
  clash n r s a b h =
      let w = b.within in
      true≢false (sym (b.before r h) ∙ a.fails (omega arith))

  first_unique : (n r s : ℕ) → First n r → First n s → r ≡ s
  first_unique n r s a b =
      ⊎_elim (λ h. absurd (clash n r s a b h)) (⊎_elim (λ h. h) (λ h. absurd (clash n s r b a h))) (ordered r s)

  first_step : (n r : ℕ) → First n r → (s t : Bool) → ltb r n ≡ s → p n ≡ t → First (suc n) (cond s r (cond t (suc n) n))
  first_step n r f true t e g =
      let w = f.within in
      record { within = omega arith; before = f.before; fails = λ _. f.fails (ltb-true r n e) }
  first_step n r f false true e g =
      let w = f.within in
      let full : r ≡ n = omega (arith, ltb-false r n e) in
      record {
        within = omega arith;
        before = λ k h. last (λ k. p k ≡ true) n k h (λ l. f.before k (omega arith)) g;
        fails = λ h. absurd (omega arith);
      }
  first_step n r f false false e g =
      let w = f.within in
      let full : r ≡ n = omega (arith, ltb-false r n e) in
      record { within = omega arith; before = λ k h. f.before k (omega arith); fails = λ _. g }

  pub first_is : (n : ℕ) → First n (first_fail p n)
  first_is zero =
      record { within = omega arith; before = λ k h. absurd (omega arith); fails = λ h. absurd (omega arith) }
  first_is (suc n) = first_step n (first_fail p n) (first_is n) (ltb (first_fail p n) n) (p n) refl refl

  -- what a loop that counts up has found: the first failure, or none
  pub first_stop : (n i : ℕ) → i < n → ((k : ℕ) → k < i → p k ≡ true) → p i ≡ false → i ≡ first_fail p n
  first_stop n i h b e =
      first_unique n i (first_fail p n) (record { within = omega arith; before = b; fails = λ _. e }) (first_is n)

  pub first_end : (n i : ℕ) → i ≡ n → ((k : ℕ) → k < i → p k ≡ true) → i ≡ first_fail p n
  first_end n i h b =
      first_unique n i (first_fail p n) (record { within = omega arith; before = b; fails = λ l. absurd (omega arith) }) (first_is n)

  -- no number fails, so each passes; and back
  pub first_none : (n : ℕ) → n ≤ first_fail p n → (k : ℕ) → k < n → p k ≡ true
  first_none n h k l = (first_is n).before k (omega arith)

  pub first_all : (n : ℕ) → ((k : ℕ) → k < n → p k ≡ true) → first_fail p n ≡ n
  first_all n h = sym (first_end n n refl h)

-- ---- one test that passed, and now fails: a loop's measure

module _ (t u : ℕ → Bool) where
  pub count_agree : (n : ℕ) → ((i : ℕ) → i < n → u i ≡ t i) → count_below u n ≡ count_below t n
  count_agree zero c = refl
  count_agree (suc n) c = rw (c n (omega arith), count_agree n (λ i p. c i (omega arith)))

  pub count_less : (n j : ℕ) → j < n → t j ≡ true → u j ≡ false → ((i : ℕ) → i < n → (i ≡ j → ⊥) → u i ≡ t i) → count_below u n < count_below t n
  count_less zero j g a b c = absurd (omega arith)
  count_less (suc n) j g a b c =
      ⊎_elim (λ p. past p (count_less n j p a b (λ i q r. c i (omega arith) r))) (⊎_elim here (λ p. absurd (omega arith))) (ordered j n)
    where
      here : j ≡ n → count_below u n + one (u n) < count_below t n + one (t n)
      here e =
          let tn : t n ≡ true = ap t (sym e) ∙ a in
          let un : u n ≡ false = ap u (sym e) ∙ b in
          rw (tn, un, count_agree n (λ i p. c i (omega arith) (λ q. omega arith))) (omega arith)

      past : j < n → count_below u n < count_below t n → count_below u n + one (u n) < count_below t n + one (t n)
      past p ih = rw (c n (omega arith) (λ q. omega arith)) (omega arith)
