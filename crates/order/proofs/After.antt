-- What comes strictly after an element, in a list in strict order: the rest of the list, past that element.
-- Assumes nothing.
use Prim.Native.Nat.{ℕ, zero, suc, ◌<◌}
use native.Mathlib.Nat.{le_of_suc-le-suc, not-suc-le-zero}
use native.Mathlib.Omega.{arith}
use mathlib.Core.Path.{◌≡◌, refl, sym, ap, subst, ◌∙◌}
use mathlib.Core.Bool.{Bool, true, false}
use mathlib.Core.List.{List, [], ◌∷◌, Memᴰ}
use lib.ListN.{length, take, drop, get_or}
use lib.Seq.{split_at}
use Rattle.order.specs.Order.{Order, Ahead, Strict, only}
use Rattle.order.proofs.Place.{by_test, lt_self, lt_trans}
use Rattle.order.proofs.Only.{only_nil, only_yes, only_no, only_all, only_out}

get_d_mem : {A : Type 0} (j : ℕ) (d : A) (l : List A) → j < length l → Memᴰ (get_or l j d) l
get_d_mem j d l h =
    subst (Memᴰ (get_or l j d)) (sym (split_at l j d h)) (mathlib.Core.List.Memᴰ.append_right (take j l) (mathlib.Core.List.Memᴰ.head refl))

module _ {A : Type 0} (lt : A → A → Bool) (o : Order lt) where
  -- after the first are the others
  after_head : (x : A) (xs : List A) → Ahead lt x xs → only (lt x) (x ∷ xs) ≡ xs
  after_head x xs h = only_no (lt x) x xs (lt_self lt o x) ∙ only_all (lt x) xs h

  -- after element j is what stands past it
  pub after_rest : (j : ℕ) (d : A) (l : List A) → Strict lt l → j < length l → only (lt (get_or l j d)) l ≡ drop (suc j) l
  unfolding Strict
  after_rest j d [] s h = absurd (not-suc-le-zero h)
  after_rest zero d (x ∷ xs) s h = after_head x xs s.0
  after_rest (suc j) d (x ∷ xs) s h =
      let z : A = get_or xs j d in
      only_no (lt z) x xs (o.asym x z (s.0 z (get_d_mem j d xs (le_of_suc-le-suc h)))) ∙ after_rest j d xs s.1 (le_of_suc-le-suc h)

  -- after the first of those that come after z, which need not stand in the list, are the others of them
  pub after_next : (z x : A) (r l : List A) → Strict lt l → only (lt z) l ≡ x ∷ r → only (lt x) l ≡ r
  unfolding Strict
  after_next z x r [] s e = absurd (omega (arith, ap length (sym (only_nil (lt z)) ∙ e)))
  after_next z x r (y ∷ ys) s e = by_test (lt z y) here (λ h. let f = later h in skip f (after_next z x r ys s.1 f))
    where
      here : lt z y ≡ true → only (lt x) (y ∷ ys) ≡ r
      here h =
          let w : only (lt z) ys ≡ ys = only_all (lt z) ys (λ t m. lt_trans lt o z y t h (s.0 t m)) in
          let f : y ∷ ys ≡ x ∷ r = rw (only_yes (lt z) y ys h, w) at e in
          let p : x ≡ y = cc in
          let q : ys ≡ r = cc in
          rw p (after_head y ys s.0 ∙ q)

      later : lt z y ≡ false → only (lt z) ys ≡ x ∷ r
      later h = rw (only_no (lt z) y ys h) at e

      skip : only (lt z) ys ≡ x ∷ r → only (lt x) ys ≡ r → only (lt x) (y ∷ ys) ≡ r
      skip f ih =
          let m : Memᴰ x (only (lt z) ys) = rw f (mathlib.Core.List.Memᴰ.head refl) in
          only_no (lt x) y ys (o.asym y x (s.0 x (only_out (lt z) x ys m).0)) ∙ ih
