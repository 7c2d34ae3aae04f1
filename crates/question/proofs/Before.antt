-- The order of bays is a strict order, it tells different numbers apart, and a farther bay never comes before a nearer
-- one. Assumes nothing.
use Prim.Native.Nat.{◌≤◌, ◌<◌}
use native.Mathlib.Omega.{arith}
use mathlib.Core.Path.{◌≡◌}
use mathlib.Core.Bool.{true, false}
use lib.Dec.{eqb}
use borrow.Author.Tests.{eqb-true, eqb-false, lt-ltb}
use Rattle.order.specs.Order.{Order, Apart}
use Rattle.order.specs.Ranked.{lower}
use Rattle.order.proofs.Place.{by_test}
use Rattle.order.proofs.Ranked as ranks
use Rattle.question.specs.declared.mark.Mark.{Mark}
use Rattle.question.specs.Mark.{far_of, bay_of, before, start}

pub in_order : Order before
unfolding before
in_order = ranks.ranked_order far_of (lower bay_of) (ranks.lower_order bay_of)

module _ (a b : Mark) where
  -- different numbers are told apart
  pub told_apart : (a.bay ≡ b.bay → ⊥) → Apart before a b
  unfolding before
  told_apart h = ranks.ranked_apart far_of (lower bay_of) a b (λ q. ranks.lower_apart bay_of a b h)

  -- what is strictly farther does not come before; what is as far may
  pub farther_waits : b.far.0 < a.far.0 → before a b ≡ false
  unfolding before
  farther_waits = ranks.farther_waits far_of (lower bay_of) a b

  -- what is strictly nearer comes before, and what does not come before is no nearer
  pub nearer_comes : a.far.0 < b.far.0 → before a b ≡ true
  unfolding before
  nearer_comes = ranks.nearer_comes far_of (lower bay_of) a b

  pub waits_farther : before a b ≡ false → b.far.0 ≤ a.far.0
  unfolding before
  waits_farther = ranks.waits_farther far_of (lower bay_of) a b

-- every bay but a bay 0 comes after the start
pub after_start : (b : Mark) → 0 < b.bay → before start b ≡ true
unfolding before
after_start b h =
    by_test (eqb 0 b.far.0)
    (λ e. ranks.tied_comes far_of (lower bay_of) start b (eqb-true 0 b.far.0 e) (lt-ltb 0 b.bay h))
    (λ e. ranks.nearer_comes far_of (lower bay_of) start b (some (eqb-false 0 b.far.0 e)))
  where
    some : (0 ≡ b.far.0 → ⊥) → 0 < b.far.0
    some ne = omega arith
