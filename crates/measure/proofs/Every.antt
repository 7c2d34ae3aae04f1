-- A test of every element of a list fails exactly when some element fails it. Assumes nothing.
use mathlib.Core.Path.{◌≡◌, refl, sym, ap, ◌∙◌}
use mathlib.Core.Bool.{Bool, true, false, not, ◌&&◌, false≢true}
use mathlib.Core.List.Memᴰ
use mathlib.Core.List.{List, [], ◌∷◌, Memᴰ}
use mathlib.Core.Logic.{⊎_elim}
use Rattle.numbers.specs.Exactly.{Exactly}
use Rattle.measure.specs.Axes.{every}

module _ {A : Type 0} (f : A → Bool) where
  -- an element that fails
  abbrev pub Fails : List A → Type 0
  Fails l = (x : A) × Memᴰ x l × (f x ≡ false)

  found : (l : List A) → not (every f l) ≡ true → Fails l
  found [] e = absurd (false≢true e)
  found (x ∷ xs) e = go (f x) refl (found xs) e
    where
      go : (t : Bool) → f x ≡ t → (not (every f xs) ≡ true → Fails xs) → not (t && every f xs) ≡ true → Fails (x ∷ xs)
      go true q ih h = let w = ih h in (w.0, Memᴰ.tail w.1, w.2)
      go false q ih h = (x, Memᴰ.head refl, q)

  shows : (l : List A) (x : A) → Memᴰ x l → f x ≡ false → not (every f l) ≡ true
  shows [] x m e = absurd (Memᴰ.not-nil m)
  shows (y ∷ ys) x m e = ⊎_elim (λ q. here (ap f (sym q) ∙ e)) (λ n. there (f y) (shows ys x n e)) (Memᴰ.cases_cons m)
    where
      here : f y ≡ false → not (f y && every f ys) ≡ true
      here q = rw q

      there : (t : Bool) → not (every f ys) ≡ true → not (t && every f ys) ≡ true
      there true h = h
      there false h = refl

  pub some_fails : (l : List A) → Exactly (not (every f l)) (Fails l)
  some_fails l = record { sound = found l; complete = λ w. shows l w.0 w.1 w.2 }
