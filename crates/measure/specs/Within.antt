-- A box that lies within a box, axis by axis, seen from one point.
use Rattle.std.specs.Prelude.{◌≡◌, List, [], ◌∷◌, ◌≤ℤ◌}
use Rattle.measure.specs.declared.Axis.{Axis}

-- the span of a, which has low ≤ high, lies within that of b
pub record Within (a b : Axis) : Type 0 where
  pub point : a.at ≡ b.at
  pub low : b.span.low ≤ℤ a.span.low
  pub span : a.span.low ≤ℤ a.span.high
  pub high : a.span.high ≤ℤ b.span.high

-- the same on every axis
pub data AllWithin : List Axis → List Axis → Type 0 where
  none : AllWithin [] []
  more : {a b : Axis} {inner outer : List Axis} → Within a b → AllWithin inner outer → AllWithin (a ∷ inner) (b ∷ outer)
