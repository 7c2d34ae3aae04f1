-- On one side of one axis, a slot's box is the smallest round the filled boxes of the node that it names.
use Rattle.std.specs.Prelude.{◌≡◌, true, ℕ, ◌/◌}
use Rattle.floor.specs.View.{View, filled}
use Rattle.rules.specs.Boxes.{Side, as_far, end_of}

pub record Smallest (v : View) (a : ℕ) (side : Side) (j : ℕ) : Type 0 where
  -- slot j reaches as far out as every filled slot of that node
  pub holds : (k : ℕ) → k / 8 ≡ v.ref j → filled v k ≡ true → as_far side (end_of side (v.span j a)) (end_of side (v.span k a)) ≡ true
  -- one of them reaches as far out as slot j
  pub at : ℕ
  pub within : at / 8 ≡ v.ref j
  pub filled : filled v at ≡ true
  pub meets : end_of side (v.span at a) ≡ end_of side (v.span j a)
