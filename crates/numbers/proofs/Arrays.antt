-- Arrays that are filled from their start, and the least of an array so far, each by what m reads off an element.
-- Assumes nothing.
use Prim.Native.Nat.{ℕ, ◌+◌, ◌<◌, ◌≤◌}
use native.Mathlib.Omega.{arith}
use native.Mathlib.Decide.{ℕ_discrete}
use mathlib.Core.Path.{◌≡◌, sym, ap, ◌∙◌}
use mathlib.Core.List.{List}
use lib.ListN.{length, get_or, set}
use lib.Seq.{get_or-set_same, get_or-set_other}

pub filled_next : {A B : Type 0} (m : A → B) (d : A) (f : ℕ → B) (l : List A) (i : ℕ) (x : A) → i < length l
    → ((j : ℕ) → j < i → m (get_or l j d) ≡ f j) → m x ≡ f i → (j : ℕ) → j < i + 1 → m (get_or (set l i x) j d) ≡ f j
filled_next m d f l i x h k e j g =
    elim (ℕ_discrete j i) [
      | yes p ↦ ap (λ (z : ℕ). m (get_or (set l i x) z d)) p ∙ ap m (get_or-set_same l i x d h) ∙ e ∙ ap f (sym p)
      | no p ↦ ap m (get_or-set_other l i j x d p) ∙ k j (omega arith)
    ]

pub least_next : {A : Type 0} (m : A → ℕ) (d : A) (l : List A) (at i x : ℕ) → ((j : ℕ) → j < i → m (get_or l at d) ≤ m (get_or l j d))
    → m (get_or l x d) ≤ m (get_or l at d) → m (get_or l x d) ≤ m (get_or l i d) → (j : ℕ) → j < i + 1 → m (get_or l x d) ≤ m (get_or l j d)
least_next m d l at i x k a b j g =
    elim (ℕ_discrete j i) [
      | yes p ↦ rw p b
      | no p ↦ (let h : m (get_or l at d) ≤ m (get_or l j d) = k j (omega arith) in omega arith)
    ]
