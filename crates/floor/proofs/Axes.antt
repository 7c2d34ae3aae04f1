-- What holds on each axis holds of a box. Here alone a box's axes are counted out. Assumes nothing.
use Prim.Native.Nat.{ℕ, ◌<◌}
use native.Mathlib.Omega.{arith}
use mathlib.Core.Path.{◌≡◌}
use mathlib.Core.Bool.{true, ◌&&◌}
use lib.IntN.{ℤ}
use Rattle.std.proofs.lemmas.Bool.{and_parts}
use Rattle.measure.specs.declared.Point.{Point}
use Rattle.measure.specs.declared.Span.{Span}
use Rattle.measure.specs.Axis.{in_range, point_in, span_in, Ready}
use Rattle.measure.specs.Axes.{Each}
use Rattle.measure.specs.Answer.{axes_of, point_ok}
use Rattle.measure.specs.Within.{Within, AllWithin, none, more}
use Rattle.floor.specs.Layout.{axis_count}
use Rattle.floor.specs.View.{bounds_by}

module _ (p : Point) (f : ℕ → Span) where
  -- a box whose spans are in range, seen from a point in range, is one that no measure refuses
  pub axes_ready : point_ok p ≡ true → ((a : ℕ) → a < axis_count → span_in (f a) ≡ true) → Each Ready (axes_of p (bounds_by f))
  unfolding point_in
  axes_ready ok h =
      let x = and_parts (in_range p.x) (in_range p.y && true) ok in
      let y = and_parts (in_range p.y) true x.1 in
      (record { point = x.0; span = h 0 (omega arith) }, (record { point = y.0; span = h 1 (omega arith) }, tt))

  -- a box that lies within another on each axis lies within it
  pub axes_within : (g : ℕ → Span)
      → ((a : ℕ) → a < axis_count → (z : ℤ) → Within (record { at = z; span = f a }) (record { at = z; span = g a }))
      → AllWithin (axes_of p (bounds_by f)) (axes_of p (bounds_by g))
  axes_within g h = more (h 0 (omega arith) p.x) (more (h 1 (omega arith) p.y) none)
