-- One axis of a point and a box: the point at p, the box from low to high, in millimetres.
-- Document 01, 'Measures'; document 001, Definitions 2 and 4.
use Rattle.std.specs.Prelude.{◌≡◌, Bool, true, cond, ◌&&◌, ℕ, ℤ, pos, neg_ℤ, nat_abs, ◌+ℤ◌, ◌-ℤ◌, ◌*ℤ◌}
use Rattle.std.specs.Int.Signed.{lt_z, le_z}
use Rattle.measure.specs.declared.Axis.{Axis}
use Rattle.measure.specs.declared.Span.{Span}

-- how far from 0 a coordinate may be
abbrev pub limit : ℕ
limit = 1000000

unfoldable pub in_range : ℤ → Bool
in_range z = le_z (neg_ℤ (pos limit)) z && le_z z (pos limit)

unfoldable pub point_in : Axis → Bool
point_in a = in_range a.at

-- both ends in range, and low ≤ high
unfoldable pub span_in : Span → Bool
span_in s = in_range s.low && in_range s.high && le_z s.low s.high

abbrev pub box_in : Axis → Bool
box_in a = span_in a.span

-- (a - b)²
unfoldable pub square_of : ℤ → ℤ → ℕ
square_of a b = nat_abs ((a -ℤ b) *ℤ (a -ℤ b))

-- r: low if p < low, high if p > high, else p
unfoldable pub nearest_on : Axis → ℤ
nearest_on a = cond (lt_z a.at a.span.low) a.span.low (cond (lt_z a.span.high a.at) a.span.high a.at)

-- the near face m is low if 2p ≤ low + high, else high
unfoldable pub low_is_near : Axis → Bool
low_is_near a = le_z (pos 2 *ℤ a.at) (a.span.low +ℤ a.span.high)

abbrev pub near_face : Axis → ℤ
near_face a = cond (low_is_near a) a.span.low a.span.high

-- the far face M is low if 2p ≥ low + high, else high
unfoldable pub low_is_far : Axis → Bool
low_is_far a = le_z (a.span.low +ℤ a.span.high) (pos 2 *ℤ a.at)

abbrev pub far_face : Axis → ℤ
far_face a = cond (low_is_far a) a.span.low a.span.high

-- (p - r)², (p - m)² and (p - M)²
abbrev pub min_sq : Axis → ℕ
min_sq a = square_of a.at (nearest_on a)

abbrev pub near_sq : Axis → ℕ
near_sq a = square_of a.at (near_face a)

abbrev pub far_sq : Axis → ℕ
far_sq a = square_of a.at (far_face a)

-- an axis that nothing refuses
pub record Ready (a : Axis) : Type 0 where
  pub point : point_in a ≡ true
  pub span : box_in a ≡ true
