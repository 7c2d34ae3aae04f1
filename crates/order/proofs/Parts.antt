-- Lists that are joined part by part, and those that pass a test: when nothing stands twice in them, and when they have
-- the same members. Assumes nothing.
use Prim.Native.Nat.{ℕ, zero, suc, ◌<◌}
use native.Mathlib.Nat.{not-suc-le-zero}
use native.Mathlib.Omega.{arith}
use native.Mathlib.Decide.{ℕ_discrete}
use mathlib.Core.Logic.{⊎_elim}
use mathlib.Core.Bool.{Bool}
use mathlib.Core.List.Memᴰ
use mathlib.Core.List.{List, [], ◌∷◌, ◌++◌, Memᴰ}
use mathlib.Core.Path.{refl}
use Rattle.order.specs.Order.{Once, Disjoint, Same, only, gather}
use Rattle.order.proofs.Place.{by_test}
use Rattle.order.proofs.Only.{only_nil, only_yes, only_no, only_in, only_out, gather_each}

module _ {A : Type 0} where
  pub gather_in : (f : ℕ → List A) (n i : ℕ) (x : A) → i < n → Memᴰ x (f i) → Memᴰ x (gather f n)
  unfolding gather
  gather_in f zero i x h m = absurd (not-suc-le-zero h)
  gather_in f (suc n) i x h m =
      elim (ℕ_discrete i n) [
        | yes e ↦ Memᴰ.append_right (gather f n) (rw e at m)
        | no d ↦ Memᴰ.append_left (f n) (gather_in f n i x (omega arith) m)
      ]

  pub only_same : (p : A → Bool) (es fs : List A) → Same es fs → Same (only p es) (only p fs)
  only_same p es fs s =
      record {
        there = λ x m. let o = only_out p x es m in only_in p x fs (s.there x o.0) o.1;
        back = λ x m. let o = only_out p x fs m in only_in p x es (s.back x o.0) o.1;
      }

  -- ---- nothing twice

  once_append : (xs ys : List A) → Once xs → Once ys → Disjoint xs ys → Once (xs ++ ys)
  unfolding Once
  once_append [] ys d c h = c
  once_append (x ∷ xs) ys d c h = (
    (λ m. ⊎_elim d.0 (h x (Memᴰ.head refl)) (Memᴰ.append_cases xs m)),
    once_append xs ys d.1 c (λ a m n. h a (Memᴰ.tail m) n),
  )

  pub gather_once : (f : ℕ → List A) (n : ℕ) → ((i : ℕ) → i < n → Once (f i)) → ((i j : ℕ) → i < j → j < n → Disjoint (f i) (f j)) → Once (gather f n)
  unfolding gather Once
  gather_once f zero d c = tt
  gather_once f (suc n) d c =
      once_append (gather f n) (f n)
      (gather_once f n (λ i h. d i (omega arith)) (λ i j h k. c i j h (omega arith)))
      (d n (omega arith))
      (gather_each (λ z. Memᴰ z (f n) → ⊥) f n (λ i h. c i n h (omega arith)))

  pub only_once : (p : A → Bool) (l : List A) → Once l → Once (only p l)
  unfolding Once
  only_once p [] d = rw (only_nil p) tt
  only_once p (x ∷ xs) d =
      by_test (p x)
      (λ e. rw (only_yes p x xs e) ((λ m. d.0 (only_out p x xs m).0), only_once p xs d.1))
      (λ e. rw (only_no p x xs e) (only_once p xs d.1))
