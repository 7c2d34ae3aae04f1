-- What the range gives: sizes of coordinates, so that squares and their sums fit. Assumes nothing.
use mathlib.Core.Path.{◌≡◌, ap}
use mathlib.Core.Bool.{true, ◌&&◌}
use Prim.Native.Nat.{ℕ, ◌*◌, ◌≤◌}
use native.Mathlib.Omega.{arith}
use native.Mathlib.Nat.{mul-le-mul}
use borrow.Author.Tests.{leb-true}
use lib.IntN.{ℤ, pos, negsuc, nat_abs, ◌-ℤ◌}
use lib.Signed.{lt_z, le_z, ◌≤ℤ◌}
use mir.Syntax.{w32}
use mir.Val.{SFits}
use Rattle.std.proofs.lemmas.Bool.{and_parts}
use Rattle.numbers.proofs.Tests.{chosen}
use Rattle.numbers.proofs.Order.{test_le}
use Rattle.numbers.proofs.Sizes.{difference_size, square_size}
use Rattle.measure.specs.declared.Axis.{Axis}
use Rattle.measure.specs.declared.Span.{Span}
use Rattle.measure.specs.Axis.{limit, in_range, point_in, span_in, square_of, nearest_on, low_is_near, low_is_far, min_sq, near_sq, far_sq, Ready}

abbrev InRange : ℤ → Type 0
InRange z = in_range z ≡ true

pub in_range_size : (z : ℤ) → in_range z ≡ true → nat_abs z ≤ limit
unfolding in_range
in_range_size (pos n) e = leb-true n limit e
in_range_size (negsuc n) e = omega (arith, leb-true n 999999 (and_parts _ true e).0)

-- what a `Span` or an `Axis` by value holds fits its fields
pub record Ends (s : Span) : Type 0 where
  pub low : SFits w32 s.low
  pub high : SFits w32 s.high

pub record Fields (a : Axis) : Type 0 where
  pub at : SFits w32 a.at
  pub low : SFits w32 a.span.low
  pub high : SFits w32 a.span.high

-- the most that one axis can give
abbrev pub most : ℕ
most = 4 * (limit * limit)

module _ (a b : ℤ) (h : in_range a ≡ true) (k : in_range b ≡ true) where
  pub difference_small : nat_abs (a -ℤ b) ≤ 2 * limit
  difference_small = omega (arith, difference_size a b, in_range_size a h, in_range_size b k)

  pub square_small : square_of a b ≤ most
  unfolding square_of
  square_small =
      omega (arith, difference_small, mul-le-mul difference_small difference_small, ap nat_abs (square_size (a -ℤ b)))

-- ---- a span in order

module _ (s : Span) (h : span_in s ≡ true) where
  span_tests : (in_range s.low && in_range s.high ≡ true) × (le_z s.low s.high ≡ true)
  unfolding span_in
  span_tests = and_parts _ _ h

  pub span_low : in_range s.low ≡ true
  span_low = (and_parts _ _ span_tests.0).0

  pub span_high : in_range s.high ≡ true
  span_high = (and_parts (in_range s.low) _ span_tests.0).1

  pub span_ordered : s.low ≤ℤ s.high
  span_ordered = test_le span_tests.1

-- ---- one axis that nothing refuses

module _ {a : Axis} (h : Ready a) where
  pub at_in : in_range a.at ≡ true
  unfolding point_in
  at_in = h.point

  pub low_in : in_range a.span.low ≡ true
  low_in = span_low a.span h.span

  pub high_in : in_range a.span.high ≡ true
  high_in = span_high a.span h.span

  pub ordered : a.span.low ≤ℤ a.span.high
  ordered = span_ordered a.span h.span

  pub nearest_in : in_range (nearest_on a) ≡ true
  unfolding nearest_on
  nearest_in = chosen InRange (lt_z a.at a.span.low) low_in (chosen InRange (lt_z a.span.high a.at) high_in at_in)

  pub min_small : min_sq a ≤ most
  min_small = square_small _ _ at_in nearest_in

  pub near_small : near_sq a ≤ most
  near_small = square_small _ _ at_in (chosen InRange (low_is_near a) low_in high_in)

  pub far_small : far_sq a ≤ most
  far_small = square_small _ _ at_in (chosen InRange (low_is_far a) low_in high_in)
