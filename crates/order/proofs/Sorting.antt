-- The laws of a whole sort: it has the members of the list, of distinct elements it is strict, and a test may be made
-- before it or after it. Assumes nothing.
use Prim.Native.Nat.{ℕ, ◌+◌}
use native.Mathlib.Omega.{arith}
use mathlib.Core.Path.{◌≡◌, refl, sym, ◌∙◌}
use mathlib.Core.Logic.{◌⊎◌, inl, inr, ⊎_elim}
use mathlib.Core.Bool.{Bool, true, false}
use mathlib.Core.List.Memᴰ
use mathlib.Core.List.{List, [], ◌∷◌, Memᴰ}
use lib.ListN.{length, take}
use Rattle.order.specs.Order.{Order, place, sort_onto, sort, keep_all, Ahead, Apart, Cross, Sorted, Strict, Distinct, only}
use Rattle.order.proofs.Place.{by_test, mem_each, apart_flip, lt_past, place_nil, place_here, place_past, place_cases, place_front, place_out, place_new, place_old, place_each, place_sorted, place_strict}
use Rattle.order.proofs.Only.{only_nil, only_yes, only_no, only_out}
use Rattle.order.proofs.Kept.{keep_sort}

module _ {A : Type 0} (lt : A → A → Bool) where
  -- ---- its members, and how many

  onto_out : (es : List A) (x : A) (l : List A) → Memᴰ x (sort_onto lt es l) → Memᴰ x es ⊎ Memᴰ x l
  unfolding sort_onto
  onto_out [] x l m = inr m
  onto_out (e ∷ es) x l m =
      ⊎_elim
      (λ n. inl (Memᴰ.tail n))
      (λ n. ⊎_elim (λ q. inl (Memᴰ.head q)) (λ k. inr k) (place_out lt e x l n))
      (onto_out es x (place lt e l) m)

  onto_old : (es : List A) (x : A) (l : List A) → Memᴰ x l → Memᴰ x (sort_onto lt es l)
  unfolding sort_onto
  onto_old [] x l m = m
  onto_old (e ∷ es) x l m = onto_old es x (place lt e l) (place_old lt e x l m)

  onto_new : (es : List A) (x : A) (l : List A) → Memᴰ x es → Memᴰ x (sort_onto lt es l)
  unfolding sort_onto
  onto_new [] x l m = absurd (Memᴰ.not-nil m)
  onto_new (e ∷ es) x l m =
      ⊎_elim (λ q. onto_old es x (place lt e l) (Memᴰ.cast q (place_new lt e l))) (onto_new es x (place lt e l)) (Memᴰ.cases_cons m)

  pub sort_out : (x : A) (es : List A) → Memᴰ x (sort lt es) → Memᴰ x es
  sort_out x es m = ⊎_elim (λ n. n) (λ n. absurd (Memᴰ.not-nil n)) (onto_out es x [] m)

  pub sort_in : (x : A) (es : List A) → Memᴰ x es → Memᴰ x (sort lt es)
  sort_in x es m = onto_new es x [] m

  place_length : (r : A) (l : List A) → length (place lt r l) ≡ length l + 1
  place_length r [] = rw place_nil
  place_length r (x ∷ xs) =
      place_cases lt (λ l. length l ≡ length (x ∷ xs) + 1) r x xs (λ e. omega arith) (λ e. omega (arith, place_length r xs))

  onto_length : (es l : List A) → length (sort_onto lt es l) ≡ length es + length l
  unfolding sort_onto
  onto_length [] l = omega arith
  onto_length (e ∷ es) l = omega (arith, onto_length es (place lt e l), place_length e l)

  pub sort_length : (es : List A) → length (sort lt es) ≡ length es
  sort_length es = omega (arith, onto_length es [])

  module _ (o : Order lt) where
    -- ---- it is strict

    onto_strict : (es l : List A) → Distinct lt es → Strict lt l → Cross lt es l → Strict lt (sort_onto lt es l)
    unfolding sort_onto Distinct
    onto_strict [] l d s h = s
    onto_strict (e ∷ es) l d s h =
        onto_strict es (place lt e l) d.1 (place_strict lt o e l s (λ y m. h e y (Memᴰ.head refl) m))
        (λ x y m n. place_each lt (Apart lt x) e l (apart_flip lt (d.0 x m)) (λ z i. h x z (Memᴰ.tail m) i) y n)

    pub sort_strict : (es : List A) → Distinct lt es → Strict lt (sort lt es)
    unfolding Strict
    sort_strict es d = onto_strict es [] d tt (λ x y m n. absurd (Memᴰ.not-nil n))

    -- ---- a test before it or after it

    module _ (p : A → Bool) where
      only_place_no : (e : A) (l : List A) → p e ≡ false → only p (place lt e l) ≡ only p l
      only_place_no e [] f = simp (place_nil, only_no)
      only_place_no e (x ∷ xs) f =
          by_test (lt e x)
          (λ h. simp (place_here, only_no))
          (λ h. by_test (p x) (λ g. simp (place_past, only_yes, only_place_no e xs f)) (λ g. simp (place_past, only_no, only_place_no e xs f)))

      only_place_yes : (e : A) (l : List A) → p e ≡ true → Sorted lt l → only p (place lt e l) ≡ place lt e (only p l)
      unfolding Sorted
      only_place_yes e [] f s = simp (place_nil, only_yes, only_nil)
      only_place_yes e (x ∷ xs) f s =
          let ih : only p (place lt e xs) ≡ place lt e (only p xs) = only_place_yes e xs f s.1 in
          by_test (lt e x)
          (λ h. rw (place_here lt e x xs h, only_yes p e (x ∷ xs) f) (sym (place_front lt e (only p (x ∷ xs)) (first h))))
          (λ h. by_test (p x) (λ g. simp (place_past, only_yes, ih)) (λ g. simp (place_past, only_no, ih)))
        where
          first : lt e x ≡ true → Ahead lt e (only p (x ∷ xs))
          first h y m = mem_each (λ z. lt e z ≡ true) h (λ z n. lt_past lt o e x z h (s.0 z n)) y (only_out p y (x ∷ xs) m).0

      only_onto : (es l : List A) → Sorted lt l → only p (sort_onto lt es l) ≡ sort_onto lt (only p es) (only p l)
      unfolding sort_onto
      only_onto [] l s = rw (only_nil p)
      only_onto (e ∷ es) l s =
          only_onto es (place lt e l) (place_sorted lt o e l s)
          ∙ by_test (p e) (λ f. rw (only_place_yes e l f s, only_yes p e es f)) (λ f. rw (only_place_no e l f, only_no p e es f))

      pub only_sort : (es : List A) → only p (sort lt es) ≡ sort lt (only p es)
      unfolding Sorted
      only_sort es = only_onto es [] tt ∙ rw (only_nil p)

    -- of those that pass one test, sorted, the first k that pass another
    pub only_keep : (k : ℕ) (p r : A → Bool) (es : List A) → take k (only r (sort lt (only p es))) ≡ keep_all lt k (only r (only p es)) []
    only_keep k p r es = rw (only_sort r (only p es)) (sym (keep_sort lt k (only r (only p es))))
