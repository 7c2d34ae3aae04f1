-- One axis: the nearest place lies in the span, and no place of the span is nearer. The two theorems about boxes rest
-- on this one fact. Assumes nothing.
use mathlib.Core.Path.{◌≡◌, refl}
use mathlib.Core.Bool.{Bool, true, false, cond}
use Prim.Native.Nat.{ℕ, suc, ◌+◌, ◌-◌, ◌<◌, ◌≤◌}
use native.Mathlib.Omega.{arith}
use native.Mathlib.Nat.{mul-le-mul}
use lib.IntN.{ℤ, nat_abs, ◌-ℤ◌}
use lib.Signed.{mag, lt_z, ◌≤ℤ◌, ≤ℤ_refl}
use Rattle.numbers.proofs.Order.{test_nlt}
use Rattle.numbers.proofs.Sizes.{square_size}
use Rattle.numbers.proofs.Shifted.{up, up_lt, up_nlt, up_le, up_apart}
use Rattle.measure.specs.declared.Axis.{Axis}
use Rattle.measure.specs.Axis.{square_of, nearest_on, min_sq}

-- squares are in the order of the differences
square_order : (p y z : ℤ) → nat_abs (p -ℤ y) ≤ nat_abs (p -ℤ z) → square_of p y ≤ square_of p z
unfolding square_of
square_order p y z h = rw (square_size (p -ℤ y), square_size (p -ℤ z)) (mul-le-mul h h)

module _ (a : Axis) where
  -- how far the point lies from the span, moved up by K: one of the two differences is 0
  gap : (K : ℕ) → mag a.at < K → mag a.span.low < K → mag a.span.high < K → up K a.span.low ≤ up K a.span.high → nat_abs (a.at -ℤ nearest_on a) ≡ (up K a.span.low - up K a.at) + (up K a.at - up K a.span.high)
  unfolding nearest_on
  gap K hp hl hh h = by (lt_z a.at a.span.low) (lt_z a.span.high a.at) refl refl
    where
      by : (s t : Bool) → lt_z a.at a.span.low ≡ s → lt_z a.span.high a.at ≡ t → nat_abs (a.at -ℤ cond s a.span.low (cond t a.span.high a.at)) ≡ (up K a.span.low - up K a.at) + (up K a.at - up K a.span.high)
      by true t e f = omega (arith, up_apart K a.at a.span.low hp hl, up_lt K a.at a.span.low hp hl e)
      by false true e f = omega (arith, up_apart K a.at a.span.high hp hh, up_nlt K a.at a.span.low hp hl e, up_lt K a.span.high a.at hh hp f)
      by false false e f = omega (arith, up_apart K a.at a.at hp hp, up_nlt K a.at a.span.low hp hl e, up_nlt K a.span.high a.at hh hp f)

  -- no place z of the span is nearer
  pub nearest_least : (z : ℤ) → a.span.low ≤ℤ z → z ≤ℤ a.span.high → min_sq a ≤ square_of a.at z
  nearest_least z l h =
      let K = suc (mag a.at + mag a.span.low + mag a.span.high + mag z) in
      let from = up_le K a.span.low z (omega arith) (omega arith) l in
      let to = up_le K z a.span.high (omega arith) (omega arith) h in
      let near = gap K (omega arith) (omega arith) (omega arith) (omega arith) in
      let far = up_apart K a.at z (omega arith) (omega arith) in
      square_order a.at (nearest_on a) z (omega arith)

  pub nearest_within : a.span.low ≤ℤ a.span.high → (a.span.low ≤ℤ nearest_on a) × (nearest_on a ≤ℤ a.span.high)
  unfolding nearest_on
  nearest_within h = by (lt_z a.at a.span.low) (lt_z a.span.high a.at) refl refl
    where
      by : (s t : Bool) → lt_z a.at a.span.low ≡ s → lt_z a.span.high a.at ≡ t → let r = cond s a.span.low (cond t a.span.high a.at) in (a.span.low ≤ℤ r) × (r ≤ℤ a.span.high)
      by true t e f = (≤ℤ_refl a.span.low, h)
      by false true e f = (h, ≤ℤ_refl a.span.high)
      by false false e f = (test_nlt e, test_nlt f)
