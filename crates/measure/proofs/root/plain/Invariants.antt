-- The invariant: r² ≤ d < (r + 2·step)², with step a power of two. The measure is twice the halvings left, and one more
-- where the next square does not pass d: it starts at 63 at most and falls with every turn, so there are at most 64 turns.
use Rattle.std.proofs.Common.{◌≡◌, ℕ, ◌+◌, ◌*◌, ◌^◌, ◌<◌, ◌≤◌, cond}
use lib.Dec.{leb}
use Rattle.measure.proofs.root.plain.Given as goal

pub record Between (d r step halvings : ℕ) : Type 0 where
  pub fits : d < 2 ^ 64
  pub power : step ≡ 2 ^ halvings
  pub few : halvings ≤ 31
  pub low : r * r ≤ d
  pub high : d < (r + 2 * step) * (r + 2 * step)

-- 1 where n² does not pass d, else 0
unfoldable pub reaches : ℕ → ℕ → ℕ
reaches d n = cond (leb (n * n) d) 1 0

abbrev pub invariant-loop-next : goal.invariant-loop-next
invariant-loop-next l = Between l.d l.r l.step l.halvings

abbrev pub decreases-loop-next : goal.decreases-loop-next
decreases-loop-next l = 2 * l.halvings + reaches l.d (l.r + l.step)
