-- The boxes of a tree are the smallest: each holds the filled boxes of the node that it names, and each of its sides is met
-- by one of them. Assumes nothing.
use mathlib.Core.Path.{◌≡◌, sym, ap, ◌∙◌}
use mathlib.Core.Bool.{true}
use Prim.Native.Nat.{ℕ, ◌+◌, ◌*◌, ◌<◌}
use native.Mathlib.Omega.{arith}
use Rattle.measure.specs.Axis.{span_in}
use Rattle.floor.specs.View.{View, link}
use Rattle.floor.specs.Layout.{axis_count}
use Rattle.rules.specs.Boxes.{Side, end_of}
use Rattle.rules.proofs.Hull.{hull_reached}
use Rattle.rules.proofs.Linked.{link_filled}
use Rattle.tree.specs.Treelike.{Treelike}
use Rattle.tree.specs.Smallest.{Smallest}
use Rattle.tree.proofs.Tree.{entry_in_range, link_tight, child_within}

pub boxes_smallest : (v : View) → Treelike v → (a : ℕ) → a < axis_count → (side : Side) (j : ℕ) → j < 8 * v.count → link v j ≡ true → Smallest v a side j
boxes_smallest v tree a ha side j h l =
    let tight = link_tight v tree j h l a ha in
    let met = hull_reached v a (v.ref j) side 8 (ap span_in (sym tight) ∙ entry_in_range v tree j a h ha (link_filled v j l)) in
    let below = met.below in
    record {
      holds = λ k e f. child_within v tree a ha side j k h l e f;
      at = 8 * v.ref j + met.at;
      within = omega arith;
      filled = met.filled;
      meets = met.meets ∙ ap (end_of side) (sym tight);
    }
