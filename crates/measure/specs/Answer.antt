-- What a measure answers: document 01's number and value, and which axes a point and a box have.
use Rattle.std.specs.Prelude.{Bool, cond, List, [], ◌∷◌, ℕ, ℤ, Result, Ok, Err}
use Rattle.measure.specs.declared.Axis.{Axis}
use Rattle.measure.specs.declared.Span.{Span}
use Rattle.measure.specs.declared.Point.{Point}
use Rattle.measure.specs.declared.Bounds.{Bounds}
use Rattle.measure.specs.declared.SquaredMm.{SquaredMm}
use Rattle.measure.specs.declared.OutOfRange.{OutOfRange}
use Rattle.measure.specs.declared.OutOfRange.TheVariants.{PointOutside, BoxOutside}
use Rattle.measure.specs.Axis.{in_range, point_in, box_in}
use Rattle.measure.specs.Axes.{every}

-- a point's coordinates, and a box's spans, axis by axis
abbrev pub coordinates : Point → List ℤ
coordinates p = p.x ∷ p.y ∷ []

abbrev pub spans : Bounds → List Span
spans b = b.x ∷ b.y ∷ []

-- the axes of a point and a box: a coordinate and a span each
abbrev pub axes_from : List ℤ → List Span → List Axis
axes_from [] ss = []
axes_from (z ∷ zs) [] = []
axes_from (z ∷ zs) (s ∷ ss) = record { at = z; span = s } ∷ axes_from zs ss

abbrev pub axes_of : Point → Bounds → List Axis
axes_of p b = axes_from (coordinates p) (spans b)

-- every coordinate of the point is in range
abbrev pub point_ok : Point → Bool
point_ok p = every in_range (coordinates p)

-- document 01's answer: a number, and a value that is 0 where the number is not
pub record Reading : Type 0 where
  pub number : ℕ
  pub value : ℕ

abbrev pub reading : ℕ → ℕ → Reading
reading n v = record { number = n; value = v }

-- the number of a refusal
abbrev pub refusal_number : OutOfRange → ℕ
refusal_number PointOutside = 1
refusal_number BoxOutside = 2

-- the number and the value of each case
abbrev pub reading_of : Result SquaredMm OutOfRange → Reading
reading_of (Ok d) = reading 0 d.0
reading_of (Err e) = reading (refusal_number e) 0

-- 1: the point is out of range on some axis; after that 2: the box is out of range, or low > high; else the measure
unfoldable pub measured_by : (List Axis → ℕ) → List Axis → Reading
measured_by f axes = cond (every point_in axes) (cond (every box_in axes) (reading 0 (f axes)) (reading 2 0)) (reading 1 0)
