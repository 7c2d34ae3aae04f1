-- Both places are in range, so that the difference and its square fit. Assumes nothing.
use Rattle.std.proofs.Common.{◌≡◌, ◌^◌, ◌<◌, arith, w32, ℤ, ◌-ℤ◌, FitsSigned, true, rules}
use lib.IntN.{nat_abs}
use Rattle.numbers.proofs.Signed.{difference_is, square_fits, square_casts, square_is}
use Rattle.measure.specs.Axis.{square_of, in_range}
use Rattle.measure.proofs.Range.{difference_small, at_in}
use Rattle.measure.proofs.one_axis.ReadyAxis.square_to.Goals as goal

small : (a b : ℤ) → (in_range a ≡ true) × (in_range b ≡ true) → nat_abs (a -ℤ b) < 2 ^ 31
small a b h = omega (arith, difference_small a b h.0 h.1)

pub overflow_mul-result : goal.overflow_mul-result
overflow_mul-result c =
    let f : FitsSigned w32 c.args.self.axis.at = search rules in
    rw (c.from.ensures, c.from-2.ensures) (square_fits (difference_is f c.ranges.place) (small _ _ (at_in c.args.self.ready, c.requires)))

pub overflow_cast-result : goal.overflow_cast-result
overflow_cast-result c =
    let f : FitsSigned w32 c.args.self.axis.at = search rules in
    rw (c.from.ensures, c.from-2.ensures) (square_casts (difference_is f c.ranges.place) (small _ _ (at_in c.args.self.ready, c.requires)))

pub returns : goal.returns
unfolding square_of
returns c =
    let f : FitsSigned w32 c.args.self.axis.at = search rules in
    rw (c.from.ensures, c.from-2.ensures) (square_is (difference_is f c.ranges.place) (small _ _ (at_in c.args.self.ready, c.requires)))
