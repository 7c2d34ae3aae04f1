-- What is measured from six numbers: nothing is lost where they are handed on, since each fits its type. Assumes nothing.
use mathlib.Core.Path.{◌≡◌, refl}
use mathlib.Core.Bool.{Bool, true, false, cond}
use mathlib.Core.List.{List}
use Prim.Native.Nat.{ℕ}
use lib.IntN.{ℤ}
use mir.Facts.{to_z-of_z}
use mir.Syntax.{w32}
use mir.Val.{SFits, to_z, of_z}
use Rattle.measure.specs.declared.Axis.{Axis}
use Rattle.measure.specs.declared.Bounds.{Bounds}
use Rattle.measure.specs.declared.Point.{Point}
use Rattle.measure.specs.Axis.{point_in, box_in}
use Rattle.measure.specs.Axes.{every}
use Rattle.measure.specs.Answer.{axes_of, reading, measured_by}
use Rattle.station.specs.Station.{axes}

abbrev pub AllFit : ℤ → ℤ → ℤ → ℤ → ℤ → ℤ → Type 0
AllFit x y xlow xhigh ylow yhigh =
    SFits w32 x × SFits w32 y × SFits w32 xlow × SFits w32 xhigh × SFits w32 ylow × SFits w32 yhigh

-- a number as it is handed on
abbrev pub handed : ℤ → ℤ
handed z = to_z w32 (of_z w32 z)

pub same_measure : (by : List Axis → ℕ) {x y xlow xhigh ylow yhigh : ℤ} {p : Point} {b : Bounds} → AllFit x y xlow xhigh ylow yhigh
    → p ≡ record { x = handed x; y = handed y }
    → b ≡ record { x = record { low = handed xlow; high = handed xhigh }; y = record { low = handed ylow; high = handed yhigh } }
    → measured_by by (axes_of p b) ≡ measured_by by (axes x y xlow xhigh ylow yhigh)
same_measure by f p b =
    rw (p, b) (simp (to_z-of_z f.0, to_z-of_z f.1, to_z-of_z f.2, to_z-of_z f.3, to_z-of_z f.4, to_z-of_z f.5))

-- the refusals do not hang on the measure
pub same_number : (f g : List Axis → ℕ) (axes : List Axis) → (measured_by f axes).number ≡ (measured_by g axes).number
unfolding measured_by
same_number f g axes = go (every point_in axes) (every box_in axes)
  where
    go : (p b : Bool) → (cond p (cond b (reading 0 (f axes)) (reading 2 0)) (reading 1 0)).number ≡ (cond p (cond b (reading 0 (g axes)) (reading 2 0)) (reading 1 0)).number
    go true true = refl
    go true false = refl
    go false b = refl
