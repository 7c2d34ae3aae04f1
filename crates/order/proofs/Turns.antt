-- Parts taken in any turn, up to the point where all that are left are strictly farther than the last of a full list: one
-- set of laws for any best list, over any order in which what is farther waits. `near` is a part's distance, and nothing
-- in a part is nearer than that. Assumes nothing.
use Prim.Native.Nat.{ℕ, suc, ◌-◌, ◌<◌, ◌≤◌}
use native.Mathlib.Omega.{arith}
use mathlib.Core.Path.{◌≡◌, refl, sym, ap, ◌∙◌}
use mathlib.Core.Bool.{Bool, true, false, cond, false≢true}
use mathlib.Core.List.{List, [], Memᴰ}
use lib.ListN.{length, get_or}
use Rattle.order.specs.Order.{Order, Cross, Least, Sorted, keep_all, gather}
use Rattle.order.proofs.Kept.{keep_append, keep_full}
use Rattle.order.proofs.Swap.{keep_swap}
use Rattle.order.proofs.Only.{chosen_out, gather_each, gather_none}
use Rattle.order.proofs.Visits.{taken, left, run_rest, run_one}

module _ {A : Type 0} (lt : A → A → Bool) (o : Order lt) (k n : ℕ) (part : ℕ → List A)
    (cross : (i j : ℕ) → i < n → j < n → (i ≡ j → ⊥) → Cross lt (part i) (part j)) where
  abbrev run : List A → List A → List A
  run es l = keep_all lt k es l

  run_nil : (l : List A) → run [] l ≡ l
  unfolding keep_all
  run_nil l = refl

  swap : (i j : ℕ) (l : List A) → i < n → j < n → (i ≡ j → ⊥) → run (part i) (run (part j) l) ≡ run (part j) (run (part i) l)
  swap i j l hi hj ne = sym (keep_swap lt o k (part i) (part j) l (cross i j hi hj ne))

  -- at the start none is taken in
  pub turns_none : (open' : ℕ → Bool) (l : List A) → ((i : ℕ) → i < n → (open' i ≡ true → ⊥) → part i ≡ []) → l ≡ run (gather (taken open' part) n) l
  turns_none open' l h = sym (rw (gather_none (taken open' part) n (λ i p. none i p (open' i) refl)) (run_nil l))
    where
      none : (i : ℕ) → i < n → (t : Bool) → open' i ≡ t → cond t [] (part i) ≡ []
      none i p true e = refl
      none i p false e = h i p (λ t. false≢true (sym e ∙ t))

  -- part j, taken in after others
  pub turns_one : (before' after : ℕ → Bool) (j : ℕ) (l m r : List A) → j < n → before' j ≡ true → after j ≡ false
      → ((i : ℕ) → i < n → (i ≡ j → ⊥) → after i ≡ before' i)
      → m ≡ run (gather (taken before' part) n) l → r ≡ run (part j) m → r ≡ run (gather (taken after part) n) l
  turns_one before' after j l m r hj a b c e f =
      f
      ∙ ap (run (part j)) e
      ∙ sym (run_one run run_nil (keep_append lt k) n part swap before' after n j l (omega arith) hj a b c)

  -- nothing is left
  pub turns_end : (open' : ℕ → Bool) (l m : List A) → ((i : ℕ) → i < n → open' i ≡ false)
      → m ≡ run (gather (taken open' part) n) l → m ≡ run (gather part n) l
  turns_end open' l m h e =
      e
      ∙ sym
      (run_rest run run_nil (keep_append lt k) n part swap open' n l (omega arith)
      ∙ rw (gather_none (left open' part) n (λ i p. rw (h i p))) (run_nil (run (gather (taken open' part) n) l)))

  -- or the list is full, and every part that is left is strictly farther than its last
  module _ (far : A → ℕ) (waits : (a b : A) → far b < far a → lt a b ≡ false)
      (near : ℕ → ℕ) (grows : (i : ℕ) → i < n → (z : A) → Memᴰ z (part i) → near i ≤ far z) where
    left_waits : (open' : ℕ → Bool) (last : A) → ((i : ℕ) → i < n → open' i ≡ true → far last < near i) → Least lt last (gather (left open' part) n)
    left_waits open' last h =
        gather_each (λ y. lt y last ≡ false) (left open' part) n
        (λ i p y m. let c = chosen_out (open' i) (part i) y m in
        let d = grows i p y c.1 in
        let e = h i p c.0 in
        waits y last (omega arith))

    pub turns_stop : (open' : ℕ → Bool) (d : A) (l m : List A) → 0 < k → Sorted lt m → length m ≡ k
        → ((i : ℕ) → i < n → open' i ≡ true → far (get_or m (k - 1) d) < near i)
        → m ≡ run (gather (taken open' part) n) l → m ≡ run (gather part n) l
    turns_stop open' d l m pos s long h e =
        let q : k ≡ suc (k - 1) = omega arith in
        let full : length m ≡ suc (k - 1) = omega arith in
        sym (stays q full)
        ∙ ap (run (gather (left open' part) n)) e
        ∙ sym (run_rest run run_nil (keep_append lt k) n part swap open' n l (omega arith))
      where
        stays : k ≡ suc (k - 1) → length m ≡ suc (k - 1) → run (gather (left open' part) n) m ≡ m
        stays q full =
            ap (λ (c : ℕ). keep_all lt c (gather (left open' part) n) m) q
            ∙ keep_full lt o (k - 1) d (gather (left open' part) n) m s full (left_waits open' (get_or m (k - 1) d) h)
