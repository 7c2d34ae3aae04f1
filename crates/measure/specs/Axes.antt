-- The measures of a point and a box, over a list of axes: however many there are, only who makes the list knows.
-- Document 01, 'Measures'; document 001, Definitions 2 and 4.
use Rattle.std.specs.Prelude.{Bool, true, ◌&&◌, List, [], ◌∷◌, map, ℕ, ◌+◌, min}
use Rattle.measure.specs.declared.Axis.{Axis}
use Rattle.measure.specs.Axis.{min_sq, near_sq, far_sq}

-- a test of every element of a list
abbrev pub every : {A : Type 0} → (A → Bool) → List A → Bool
every f [] = true
every f (x ∷ xs) = f x && every f xs

-- what holds of every axis
abbrev pub Each : (Axis → Type 0) → List Axis → Type 0
Each P [] = Unit {0}
Each P (a ∷ axes) = P a × Each P axes

abbrev pub sum_over : (Axis → ℕ) → List Axis → ℕ
sum_over f [] = 0
sum_over f (a ∷ axes) = f a + sum_over f axes

-- MINDIST: the sum over the axes of (p - r)²
unfoldable pub min_dist : List Axis → ℕ
min_dist axes = sum_over min_sq axes

-- for each axis k: (p - m)² on k plus (p - M)² on the others
abbrev pub face_sums : List Axis → List ℕ
face_sums [] = []
face_sums (a ∷ axes) = (near_sq a + sum_over far_sq axes) ∷ map (λ (n : ℕ). far_sq a + n) (face_sums axes)

abbrev pub least : List ℕ → ℕ
least [] = 0
least (n ∷ []) = n
least (n ∷ m ∷ ns) = min n (least (m ∷ ns))

-- MINMAXDIST: the smallest of those sums
unfoldable pub min_max_dist : List Axis → ℕ
min_max_dist axes = least (face_sums axes)
