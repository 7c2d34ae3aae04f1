-- The laws of those that pass a test, and of lists that are joined part by part: their members, and what becomes of a
-- joined list. Assumes nothing.
use Prim.Native.Nat.{ℕ, zero, suc, ◌+◌, ◌<◌}
use native.Mathlib.Numerals.{add-one}
use native.Mathlib.Omega.{arith}
use mathlib.Core.Path.{◌≡◌, refl, sym, ap, ◌∙◌}
use mathlib.Core.Logic.{⊎_elim}
use mathlib.Core.Bool.{Bool, true, false, cond, ◌&&◌, true≢false}
use mathlib.Core.List.Memᴰ
use mathlib.Core.List.{List, [], ◌∷◌, ◌++◌, Memᴰ}
use Rattle.order.specs.Order.{only, gather}
use Rattle.order.proofs.Place.{by_test}

module _ {A : Type 0} (p : A → Bool) where
  pub only_nil : only p [] ≡ []
  unfolding only
  only_nil = refl

  pub only_yes : (x : A) (xs : List A) → p x ≡ true → only p (x ∷ xs) ≡ x ∷ only p xs
  unfolding only
  only_yes x xs e = rw e

  pub only_no : (x : A) (xs : List A) → p x ≡ false → only p (x ∷ xs) ≡ only p xs
  unfolding only
  only_no x xs e = rw e

  -- an element that passes is kept, and what is kept was there and passes
  pub only_in : (x : A) (l : List A) → Memᴰ x l → p x ≡ true → Memᴰ x (only p l)
  only_in x [] m h = absurd (Memᴰ.not-nil m)
  only_in x (y ∷ ys) m h =
      by_test (p y)
      (λ e. rw only_yes (⊎_elim (λ q. Memᴰ.head q) (λ n. Memᴰ.tail (only_in x ys n h)) (Memᴰ.cases_cons m)))
      (λ e. rw only_no (⊎_elim (λ q. absurd (true≢false (sym h ∙ ap p q ∙ e))) (λ n. only_in x ys n h) (Memᴰ.cases_cons m)))

  pub only_out : (x : A) (l : List A) → Memᴰ x (only p l) → Memᴰ x l × (p x ≡ true)
  only_out x [] m = absurd (Memᴰ.not-nil (rw only_nil at m))
  only_out x (y ∷ ys) m =
      by_test (p y)
      (λ e. ⊎_elim (λ q. (Memᴰ.head q, ap p q ∙ e)) (λ n. later (only_out x ys n)) (Memᴰ.cases_cons (rw only_yes at m)))
      (λ e. later (only_out x ys (rw only_no at m)))
    where
      later : Memᴰ x ys × (p x ≡ true) → Memᴰ x (y ∷ ys) × (p x ≡ true)
      later h = (Memᴰ.tail h.0, h.1)

  -- where all pass, all are kept
  pub only_all : (l : List A) → ((x : A) → Memᴰ x l → p x ≡ true) → only p l ≡ l
  only_all [] h = only_nil
  only_all (x ∷ xs) h =
      only_yes x xs (h x (Memᴰ.head refl)) ∙ ap (◌∷◌ x) (only_all xs (λ y m. h y (Memᴰ.tail m)))

  pub only_append : (xs ys : List A) → only p (xs ++ ys) ≡ only p xs ++ only p ys
  only_append [] ys = rw only_nil
  only_append (x ∷ xs) ys =
      by_test (p x) (λ e. simp (only_yes, only_append xs ys)) (λ e. simp (only_no, only_append xs ys))

-- one test after another is both at once
pub only_both : {A : Type 0} (p r : A → Bool) (l : List A) → only r (only p l) ≡ only (λ x. p x && r x) l
unfolding only
only_both p r [] = refl
only_both p r (x ∷ xs) =
    by_test (p x)
    (λ e. rw e (by_test (r x) (λ g. rw g (ap (◌∷◌ x) (only_both p r xs))) (λ g. rw g (only_both p r xs))))
    (λ e. rw e (only_both p r xs))

-- what a choice between a list and nothing holds, the list holds, and the test passes
pub chosen_out : {A : Type 0} (t : Bool) (l : List A) (x : A) → Memᴰ x (cond t l []) → (t ≡ true) × Memᴰ x l
chosen_out true l x m = (refl, m)
chosen_out false l x m = absurd (Memᴰ.not-nil m)

module _ {A : Type 0} where
  pub gather_more : (f : ℕ → List A) (n : ℕ) → gather f (n + 1) ≡ gather f n ++ f n
  unfolding gather
  gather_more f n = rw add-one

  -- parts with nothing in them
  pub gather_none : (f : ℕ → List A) (n : ℕ) → ((i : ℕ) → i < n → f i ≡ []) → gather f n ≡ []
  unfolding gather
  gather_none f zero h = refl
  gather_none f (suc n) h = rw (gather_none f n (λ i p. h i (omega arith)), h n (omega arith))

  -- what holds of every element of each part
  pub gather_each : (P : A → Type 0) (f : ℕ → List A) (n : ℕ) → ((i : ℕ) → i < n → (x : A) → Memᴰ x (f i) → P x)
      → (x : A) → Memᴰ x (gather f n) → P x
  unfolding gather
  gather_each P f zero h x m = absurd (Memᴰ.not-nil m)
  gather_each P f (suc n) h x m =
      ⊎_elim (gather_each P f n (λ i p. h i (omega arith)) x) (h n (omega arith) x) (Memᴰ.append_cases (gather f n) m)

-- what goes through a joined list part by part
pub gather_through : {A B : Type 0} (g : List A → List B) → g [] ≡ [] → ((xs ys : List A) → g (xs ++ ys) ≡ g xs ++ g ys)
    → (f : ℕ → List A) (n : ℕ) → g (gather f n) ≡ gather (λ i. g (f i)) n
unfolding gather
gather_through g nil app f zero = nil
gather_through g nil app f (suc n) = app (gather f n) (f n) ∙ ap (λ l. l ++ g (f n)) (gather_through g nil app f n)
