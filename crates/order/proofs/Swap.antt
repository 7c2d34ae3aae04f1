-- The turn in which elements come does not show, if the order tells them apart: not in what is placed, nor in what is
-- kept, nor in the sort of the same bag. Assumes nothing.
use Prim.Native.Nat.{ℕ}
use mathlib.Core.Path.{◌≡◌, refl, sym, ap, ◌∙◌}
use mathlib.Core.Logic.{inl, inr, ⊎_elim}
use mathlib.Core.Bool.{Bool, true, false, true≢false}
use mathlib.Core.List.Memᴰ
use mathlib.Core.List.{List, [], ◌∷◌, ◌++◌, Memᴰ}
use lib.ListN.{take}
use Rattle.order.specs.Order.{Order, place, sort_onto, sort, keep_all, Apart, Cross, Distinct, Same}
use Rattle.order.proofs.Place.{by_test, mem_each, apart_flip, lt_self, lt_trans, place_nil, place_here, place_past}
use Rattle.order.proofs.Kept.{keep_onto, onto_append}

module _ {A : Type 0} where
  -- where an element stands
  record Split (x : A) (l : List A) : Type 0 where
    front : List A
    rest : List A
    is : l ≡ front ++ x ∷ rest

  split : (x : A) (l : List A) → Memᴰ x l → Split x l
  split x [] m = absurd (Memᴰ.not-nil m)
  split x (y ∷ ys) m =
      ⊎_elim
      (λ e. record { front = []; rest = ys; is = ap {B = List A} (λ t. t ∷ ys) (sym e) })
      (λ n. let s = split x ys n in record { front = y ∷ s.front; rest = s.rest; is = ap (◌∷◌ y) s.is })
      (Memᴰ.cases_cons m)

  -- the others of a list, and all of it
  others_in : (x y : A) (f g : List A) → Memᴰ y (f ++ g) → Memᴰ y (f ++ x ∷ g)
  others_in x y f g m = ⊎_elim (λ n. Memᴰ.append_left (x ∷ g) n) (λ n. Memᴰ.append_right f (Memᴰ.tail n)) (Memᴰ.append_cases f m)

  others_out : (x y : A) (f g : List A) → (y ≡ x → ⊥) → Memᴰ y (f ++ x ∷ g) → Memᴰ y (f ++ g)
  others_out x y f g h m =
      ⊎_elim
      (λ n. Memᴰ.append_left g n)
      (λ n. ⊎_elim (λ q. absurd (h q)) (λ k. Memᴰ.append_right f k) (Memᴰ.cases_cons n))
      (Memᴰ.append_cases f m)

module _ {A : Type 0} (lt : A → A → Bool) (o : Order lt) where
  place_turn : (a b : A) (l : List A) → lt a b ≡ true → place lt a (place lt b l) ≡ place lt b (place lt a l)
  place_turn a b [] h = let n : lt b a ≡ false = o.asym a b h in simp (place_nil, place_here, place_past)
  place_turn a b (x ∷ xs) h =
      let n : lt b a ≡ false = o.asym a b h in
      by_test (lt b x)
      (λ e. let f : lt a x ≡ true = lt_trans lt o a b x h e in simp (place_here, place_past))
      (λ e. by_test (lt a x) (λ f. simp (place_here, place_past)) (λ f. simp (place_past, place_turn a b xs h)))

  -- two elements, into any list
  pub place_swap : (a b : A) (l : List A) → Apart lt a b → place lt a (place lt b l) ≡ place lt b (place lt a l)
  place_swap a b l (inl h) = place_turn a b l h
  place_swap a b l (inr h) = sym (place_turn b a l h)

  -- one element before many, or after them
  onto_move : (e : A) (es l : List A) → ((x : A) → Memᴰ x es → Apart lt e x) → sort_onto lt es (place lt e l) ≡ place lt e (sort_onto lt es l)
  unfolding sort_onto
  onto_move e [] l h = refl
  onto_move e (f ∷ es) l h =
      rw (place_swap f e l (apart_flip lt (h f (Memᴰ.head refl)))) (onto_move e es (place lt f l) (λ x m. h x (Memᴰ.tail m)))

  -- many before many, or after them
  onto_swap : (es fs l : List A) → Cross lt es fs → sort_onto lt fs (sort_onto lt es l) ≡ sort_onto lt es (sort_onto lt fs l)
  unfolding sort_onto
  onto_swap [] fs l h = refl
  onto_swap (e ∷ es) fs l h =
      onto_swap es fs (place lt e l) (λ x y m n. h x y (Memᴰ.tail m) n)
      ∙ ap (sort_onto lt es) (onto_move e fs l (λ y n. h e y (Memᴰ.head refl) n))

  -- ---- the same bag

  apart_ne : (a b : A) → Apart lt a b → b ≡ a → ⊥
  apart_ne a b (inl h) e = true≢false (sym h ∙ ap (lt a) e ∙ lt_self lt o a)
  apart_ne a b (inr h) e = true≢false (sym h ∙ ap (lt b) (sym e) ∙ lt_self lt o b)

  -- one of a list of distinct elements: the others are distinct, and told apart from it
  others_distinct : (x : A) (f g : List A) → Distinct lt (f ++ x ∷ g)
      → Distinct lt (f ++ g) × ((y : A) → Memᴰ y (f ++ g) → Apart lt x y)
  unfolding Distinct
  others_distinct x [] g d = (d.1, d.0)
  others_distinct x (y ∷ f) g d =
      let ih = others_distinct x f g d.1 in
      let yx : Apart lt y x = d.0 x (Memᴰ.append_right f (Memᴰ.head refl)) in
      (((λ z m. d.0 z (others_in x z f g m)), ih.0), mem_each (Apart lt x) (apart_flip lt yx) ih.1)

  onto_same : (es fs l : List A) → Distinct lt es → Distinct lt fs → Same es fs → sort_onto lt es l ≡ sort_onto lt fs l
  unfolding sort_onto Distinct
  onto_same [] [] l d c s = refl
  onto_same [] (f ∷ fs) l d c s = absurd (Memᴰ.not-nil (s.back f (Memᴰ.head refl)))
  onto_same (e ∷ es) fs l d c s =
      let at = split e fs (s.there e (Memᴰ.head refl)) in
      let f : List A = at.front in
      let g : List A = at.rest in
      let is : fs ≡ f ++ e ∷ g = at.is in
      let od = others_distinct e f g (rw is at c) in
      let same : Same es (f ++ g) = record {
        there = λ x m. others_out e x f g (apart_ne e x (d.0 x m)) (rw is at (s.there x (Memᴰ.tail m)));
        back = λ x m. ⊎_elim (λ q. absurd (apart_ne e x (od.1 x m) q)) (λ n. n) (Memᴰ.cases_cons (s.back x (rw is (others_in e x f g m))));
      } in
      onto_same es (f ++ g) (place lt e l) d.1 od.0 same
      ∙ onto_append lt f g (place lt e l)
      ∙ ap (sort_onto lt g) (onto_move e f l (λ x m. od.1 x (Memᴰ.append_left g m)))
      ∙ sym (onto_append lt f (e ∷ g) l)
      ∙ ap (λ (z : List A). sort_onto lt z l) (sym is)

  pub sort_same : (es fs : List A) → Distinct lt es → Distinct lt fs → Same es fs → sort lt es ≡ sort lt fs
  sort_same es fs = onto_same es fs []

  -- ---- what is kept

  -- what is kept of one or more is cut, so it is the first k of the whole
  keep_some : (k : ℕ) (e : A) (es l : List A) → keep_all lt k (e ∷ es) l ≡ take k (sort_onto lt (e ∷ es) l)
  unfolding keep_all sort_onto
  keep_some k e es l = keep_onto lt k es (place lt e l)

  keep_twice : (k : ℕ) (e f : A) (es fs l : List A)
      → keep_all lt k (f ∷ fs) (keep_all lt k (e ∷ es) l) ≡ take k (sort_onto lt (f ∷ fs) (sort_onto lt (e ∷ es) l))
  keep_twice k e f es fs l = ap (keep_all lt k (f ∷ fs)) (keep_some k e es l) ∙ keep_onto lt k (f ∷ fs) (sort_onto lt (e ∷ es) l)

  -- onto any list
  pub keep_swap : (k : ℕ) (es fs l : List A) → Cross lt es fs → keep_all lt k fs (keep_all lt k es l) ≡ keep_all lt k es (keep_all lt k fs l)
  unfolding keep_all
  keep_swap k [] fs l h = refl
  keep_swap k (e ∷ es) [] l h = refl
  keep_swap k (e ∷ es) (f ∷ fs) l h =
      keep_twice k e f es fs l ∙ ap (take k) (onto_swap (e ∷ es) (f ∷ fs) l h) ∙ sym (keep_twice k f e fs es l)

  pub keep_same : (k : ℕ) (es fs l : List A) → Distinct lt es → Distinct lt fs → Same es fs
      → keep_all lt k es l ≡ keep_all lt k fs l
  keep_same k [] [] l d c s = refl
  keep_same k [] (f ∷ fs) l d c s = absurd (Memᴰ.not-nil (s.back f (Memᴰ.head refl)))
  keep_same k (e ∷ es) [] l d c s = absurd (Memᴰ.not-nil (s.there e (Memᴰ.head refl)))
  keep_same k (e ∷ es) (f ∷ fs) l d c s =
      keep_some k e es l ∙ ap (take k) (onto_same (e ∷ es) (f ∷ fs) l d c s) ∙ sym (keep_some k f fs l)
