-- For the proofs of the code: how a field is read, and the fields of a table one after another.
use Rattle.std.specs.Prelude.{◌≡◌, List, [], ◌∷◌, Bool, true, false, cond, ◌&&◌, ℕ, eqb, length, take, drop, Some, None}
use Rattle.std.specs.Cmp.Lexicographic.{pointwise}
use Rattle.reader.specs.declared.number.State.TheVariants.{Empty}
use Rattle.reader.specs.Fields.{Number, InLimits, Field, field_then}
use Rattle.reader.specs.Scan.{Scan, scan}

abbrev pub starts_with : List ℕ → List ℕ → Bool
starts_with key t = pointwise eqb (take (length key) t) key

-- a text that is the field with this number and the rest
abbrev pub Taken : Field → List ℕ → Number → List ℕ → Type 0
Taken f text None rest = Unit
Taken f text (Some n) rest = (text ≡ field_then f (Some n) rest) × InLimits f.limits (Some n)

-- a number and the rest, as read from the front of text: what was read stands there, and what stands there is read
pub record FieldRead (f : Field) (text : List ℕ) (s : Scan) : Type 0 where
  pub sound : Taken f text s.number s.rest
  pub complete : (n : Number) (rest : List ℕ) → InLimits f.limits n → text ≡ field_then f n rest → (s.number ≡ n) × (s.rest ≡ rest)

unfoldable pub field_in : Field → List ℕ → Scan
field_in f t =
    cond (starts_with f.key t) (scan f.limits f.stop Empty (drop (length f.key) t)) (record { number = None; rest = [] })

-- fields read one after the other
abbrev pub Chain : List Field → List ℕ → List Scan → Type 0
Chain [] t [] = Unit
Chain [] t (s ∷ ss) = ⊥
Chain (f ∷ fs) t [] = ⊥
Chain (f ∷ fs) t (s ∷ ss) = FieldRead f t s × Chain fs s.rest ss

abbrev pub fields_in : List Field → List ℕ → List Scan
fields_in [] t = []
fields_in (f ∷ fs) t = field_in f t ∷ fields_in fs (field_in f t).rest

-- their numbers, and what is left of the text
abbrev pub numbers_in : List Scan → List Number
numbers_in [] = []
numbers_in (s ∷ ss) = s.number ∷ numbers_in ss

abbrev pub rest_of : List ℕ → List Scan → List ℕ
rest_of t [] = t
rest_of t (s ∷ ss) = rest_of s.rest ss

abbrev pub is_number : Number → Bool
is_number (Some n) = true
is_number None = false

abbrev pub all_numbers : List Number → Bool
all_numbers [] = true
all_numbers (n ∷ ns) = is_number n && all_numbers ns

abbrev pub is_nil : List ℕ → Bool
is_nil l = eqb (length l) 0
