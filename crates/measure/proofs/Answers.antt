-- The refusals in their order: what each outcome of the tests answers. Assumes nothing.
use mathlib.Core.Path.{◌≡◌, refl, ap, ◌∙◌}
use mathlib.Core.Bool.{Bool, true, false}
use mathlib.Core.List.{List, [], ◌∷◌, map}
use Prim.Native.Nat.{ℕ, zero, suc, ◌<◌}
use native.Mathlib.Omega.{arith}
use lib.ListN.{length, get_or}
use Rattle.std.specs.Prelude.{All, Any}
use Rattle.std.proofs.lemmas.List.Elements.{All-head, All-tail}
use Rattle.std.proofs.Math.Bool.{and-false}
use Rattle.std.proofs.lemmas.Bool.{and_parts}
use Rattle.measure.specs.declared.Axis.{Axis}
use Rattle.measure.specs.declared.one_axis.ReadyAxis.{ReadyAxis}
use Rattle.measure.specs.Axis.{point_in, box_in, Ready}
use Rattle.measure.specs.Axes.{every, Each}
use Rattle.measure.specs.Answer.{reading, measured_by}

module _ (f : List Axis → ℕ) (axes : List Axis) where
  pub measured_1 : every point_in axes ≡ false → measured_by f axes ≡ reading 1 0
  unfolding measured_by
  measured_1 h = simp h

  pub measured_2 : every point_in axes ≡ true → every box_in axes ≡ false → measured_by f axes ≡ reading 2 0
  unfolding measured_by
  measured_2 h k = simp (h, k)

  pub measured_0 : every point_in axes ≡ true → every box_in axes ≡ true → measured_by f axes ≡ reading 0 (f axes)
  unfolding measured_by
  measured_0 h k = simp (h, k)

-- axes that pass both tests are ready
pub every_ready : (axes : List Axis) → every point_in axes ≡ true → every box_in axes ≡ true → Each Ready axes
every_ready [] h k = tt
every_ready (a ∷ axes) h k =
    let p = and_parts (point_in a) (every point_in axes) h in
    let s = and_parts (box_in a) (every box_in axes) k in
    (record { point = p.0; span = s.0 }, every_ready axes p.1 s.1)

-- and the other way round: ready axes pass both tests, so that they are measured
ready_every : (rs : List ReadyAxis) → (every point_in (map (λ (r : ReadyAxis). r.axis) rs) ≡ true) × (every box_in (map (λ (r : ReadyAxis). r.axis) rs) ≡ true)
ready_every [] = (refl, refl)
ready_every (r ∷ rs) = let t = ready_every rs in (rw r.ready.point t.0, rw r.ready.span t.1)

pub measured_ready : (f : List Axis → ℕ) (rs : List ReadyAxis) → measured_by f (map (λ (r : ReadyAxis). r.axis) rs) ≡ reading 0 (f (map (λ (r : ReadyAxis). r.axis) rs))
measured_ready f rs = let t = ready_every rs in measured_0 f (map (λ (r : ReadyAxis). r.axis) rs) t.0 t.1

none_below : (k : ℕ) → k < 0 → ⊥
none_below k p = omega (arith, p)

-- a test of every axis, as a test of each place of the list
module _ (f : Axis → Bool) where
  pub every_passes : (axes : List Axis) → All (λ (a : Axis). f a ≡ true) axes → every f axes ≡ true
  every_passes [] h = refl
  every_passes (a ∷ axes) h =
      rw (All-head (λ (a : Axis). f a ≡ true) a axes h) (every_passes axes (All-tail (λ (a : Axis). f a ≡ true) a axes h))

  fails_at : (axes : List Axis) (k : ℕ) (a : Axis) → k < length axes → get_or axes k a ≡ a → f a ≡ false → every f axes ≡ false
  fails_at [] k a p q e = absurd (none_below k p)
  fails_at (x ∷ axes) zero a p q e = rw (ap f q ∙ e) refl
  fails_at (x ∷ axes) (suc k) a p q e = rw (fails_at axes k a (omega (arith, p)) q e) (and-false (f x))

  pub every_fails : (axes : List Axis) → Any (λ (a : Axis). f a ≡ false) axes → every f axes ≡ false
  every_fails axes (k, a, p, q, e) = fails_at axes k a p q e
