-- The square that is not formed is judged by the quotient; each turn halves the step or takes it. Assumes nothing.
use Rattle.std.proofs.Common.{◌≡◌, Bool, true, false, cond, ℕ, ◌+◌, ◌-◌, ◌*◌, ◌/◌, ◌<◌, ◌≤◌, arith}
use lib.Dec.{leb}
use lib.Pow.{pow_pos}
use borrow.Author.Tests.{le-leb, lt-leb}
use Rattle.numbers.proofs.Squares.{quotient_below, quotient_reaches, square_more, power_twice}
use Rattle.measure.proofs.root.plain.Invariants.{Between, reaches}
use Rattle.measure.proofs.root.plain.Goals as goal

reaches_one : (d n : ℕ) → n * n ≤ d → reaches d n ≡ 1
unfolding reaches
reaches_one d n h = simp (le-leb (n * n) d h)

reaches_none : (d n : ℕ) → d < n * n → reaches d n ≡ 0
unfolding reaches
reaches_none d n h = simp (lt-leb (n * n) d h)

reaches_most : (d n : ℕ) → reaches d n ≤ 1
unfolding reaches
reaches_most d n = by (leb (n * n) d)
  where
    by : (t : Bool) → cond t 1 0 ≤ 1
    by true = omega arith
    by false = omega arith

module _ {d r step halvings : ℕ} (h : Between d r step halvings) where
  next_some : 0 < r + step
  next_some =
      let p : 0 < step = rw h.power (pow_pos halvings) in
      omega (arith, p)

  -- the next square passes d: the step is halved
  halved : 0 < halvings → d / (r + step) < r + step → Between d r (step / 2) (halvings - 1)
  halved k p =
      let e = power_twice halvings k in
      record {
        fits = h.fits;
        power = omega (arith, h.power);
        few = omega (arith, h.few);
        low = h.low;
        high = square_more d _ _ (quotient_below d (r + step) next_some p) (omega (arith, h.power));
      }

  -- the next square does not pass d, and the one after it does: the step is taken
  taken_less : r + step ≤ d / (r + step) → 2 * halvings + reaches d (r + step + step) < 2 * halvings + reaches d (r + step)
  taken_less p =
      let far = square_more d _ (r + step + step) h.high (omega arith) in
      omega (arith, reaches_one d (r + step) (quotient_reaches d (r + step) next_some p), reaches_none d (r + step + step) far)

pub loop-next-smaller-then-d-next : goal.loop-next-smaller-then-d-next
loop-next-smaller-then-d-next c =
    omega (arith, reaches_most c.args.d.0 (c.loop-next.r + c.loop-next.step / 2))

pub loop-next-preserved-then-d-next : goal.loop-next-preserved-then-d-next
loop-next-preserved-then-d-next c = halved c.loop-next.invariant (omega arith) c.if-d-next.true

pub loop-next-smaller : goal.loop-next-smaller
loop-next-smaller c = taken_less c.loop-next.invariant c.if-d-next.false
