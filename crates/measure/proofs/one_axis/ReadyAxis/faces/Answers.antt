-- Twice the point and the sum of the ends fit, and their tests are the definition's own. Assumes nothing.
use Rattle.std.proofs.Common.{◌≡◌, cond, true, false, Bool, ap, ◌∙◌, rules, ℕ, ℤ, pos, ◌+ℤ◌, ◌*ℤ◌, w64, to_z, of_z}
use mir.Facts.{to_z-of_z}
use Rattle.numbers.proofs.Signed.{twice_is, sum_is}
use Rattle.measure.specs.declared.SquaredMm.{SquaredMm}
use Rattle.measure.specs.Axis.{square_of, low_is_near, low_is_far, near_sq}
use Rattle.measure.proofs.Range.{Fields, low_in, high_in}
use Rattle.measure.proofs.one_axis.ReadyAxis.faces.Goals.{Joined-twice-ends, then-twice-ends, else-twice-ends}
use Rattle.measure.proofs.one_axis.ReadyAxis.faces.Goals as goal

pub square_to-to_low-requires : goal.square_to-to_low-requires
square_to-to_low-requires c =
    let f : Fields c.args.self.axis = search rules in
    rw (to_z-of_z f.low) (low_in c.args.self.ready)

pub square_to-to_high-requires : goal.square_to-to_high-requires
square_to-to_high-requires c =
    let f : Fields c.args.self.axis = search rules in
    rw (to_z-of_z f.high) (high_in c.args.self.ready)

-- the square to the end that a test chose
chosen : (p low high : ℤ) {s : Bool} (t : Bool) {r : ℕ} → s ≡ t → r ≡ square_of p (cond t low high) → r ≡ square_of p (cond s low high)
chosen p low high t e h = rw e h

module _ (c : Joined-twice-ends) where
  to_low : c.square_to-to_low.result.0 ≡ square_of c.args.self.axis.at c.args.self.axis.span.low
  to_low = let f : Fields c.args.self.axis = search rules in rw (to_z-of_z f.low) at c.square_to-to_low.ensures

  to_high : c.square_to-to_high.result.0 ≡ square_of c.args.self.axis.at c.args.self.axis.span.high
  to_high = let f : Fields c.args.self.axis = search rules in rw (to_z-of_z f.high) at c.square_to-to_high.ensures

  twice : to_z w64 (of_z w64 (pos 2 *ℤ to_z w64 (of_z w64 c.from-twice.result))) ≡ pos 2 *ℤ c.args.self.axis.at
  twice = let f : Fields c.args.self.axis = search rules in rw c.from-twice.ensures (twice_is f.at)

  ends : to_z w64 (of_z w64 (to_z w64 (of_z w64 c.from.result) +ℤ to_z w64 (of_z w64 c.from-2.result))) ≡ c.args.self.axis.span.low +ℤ c.args.self.axis.span.high
  ends = let f : Fields c.args.self.axis = search rules in rw (c.from.ensures, c.from-2.ensures) (sum_is f.low f.high)

  near : c.if-twice-ends.result.0 ≡ near_sq c.args.self.axis
  unfolding low_is_near
  near =
      elim c.if-twice-ends.branch [
        | then-twice-ends w ↦ chosen _ _ _ true (rw (twice, ends) at w.if-twice-ends.true) (ap (λ (d : SquaredMm). d.0) w.result-is ∙ to_low)
        | else-twice-ends w ↦ chosen _ _ _ false (rw (twice, ends) at w.if-twice-ends.false) (ap (λ (d : SquaredMm). d.0) w.result-is ∙ to_high)
      ]

pub returns-then-twice-ends-2 : goal.returns-then-twice-ends-2
unfolding low_is_far
returns-then-twice-ends-2 c =
    let b = (goal.at.returns-then-twice-ends-2 c).Joined-twice-ends in
    (near b, chosen _ _ _ true (rw (ends b, twice b) at c.if-twice-ends-2.true) (to_low b))

pub returns-else-twice-ends-2 : goal.returns-else-twice-ends-2
unfolding low_is_far
returns-else-twice-ends-2 c =
    let b = (goal.at.returns-else-twice-ends-2 c).Joined-twice-ends in
    (near b, chosen _ _ _ false (rw (ends b, twice b) at c.if-twice-ends-2.false) (to_high b))
