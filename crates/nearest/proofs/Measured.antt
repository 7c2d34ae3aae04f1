-- The map's measure, as the search rests on it: of an accepted map and a point in range it refuses no filled slot, it never
-- falls when a box shrinks, and it is small. What else is said of distances is said over any measure. Assumes nothing.
use Prim.Native.Nat.{ℕ, ◌*◌, ◌<◌, ◌≤◌}
use native.Mathlib.Omega.{arith}
use mathlib.Core.Path.{◌≡◌, refl}
use mathlib.Core.Bool.{true}
use Rattle.measure.specs.declared.Point.{Point}
use Rattle.measure.specs.Axis.{Ready}
use Rattle.measure.specs.Axes.{Each}
use Rattle.measure.specs.Answer.{axes_of}
use Rattle.measure.proofs.Range.{span_ordered}
use Rattle.measure.proofs.Theorems.{mindist_more, mindist_small}
use Rattle.floor.specs.View.{View, Shaped, bounds_of, filled, link}
use Rattle.floor.proofs.Axes.{axes_ready, axes_within}
use Rattle.rules.specs.Verdicts.{Keeps}
use Rattle.rules.proofs.Verdicts.{shaped}
use Rattle.tree.specs.Under.{Under}
use Rattle.tree.proofs.Tree.{keeps_treelike, inside, entry_in_range}
use Rattle.nearest.specs.Shown.{distance_to}
use Rattle.nearest.specs.Ground.{Ground}

-- what a search may rest on: nothing below a slot is nearer than the slot
abbrev pub Grows : View → (ℕ → ℕ) → Type 0
Grows v distance = (j k : ℕ) → j < 8 * v.count → k < 8 * v.count → link v j ≡ true → filled v k ≡ true → Under v (v.ref j) k → distance j ≤ distance k

pub distance_grows : (v : View) → Keeps v → (p : Point) → Grows v (distance_to v p)
distance_grows v keeps p j k hj hk l f u =
    let box = inside v (keeps_treelike keeps) j k hj l f u in
    mindist_more (axes_within p (v.span k) (v.span j) (λ a h z.
    record {
      point = refl;
      low = (box a h).low;
      span = span_ordered (v.span k a) (entry_in_range v (keeps_treelike keeps) k a hk h f);
      high = (box a h).high;
    }))

module _ (v : View) (p : Point) (g : Ground v p) where
  pub ground_shaped : Shaped v
  ground_shaped = shaped g.keeps.header

  pub slot_ready : (j : ℕ) → j < 8 * v.count → filled v j ≡ true → Each Ready (axes_of p (bounds_of v j))
  slot_ready j h f = axes_ready p (v.span j) g.point (λ a k. entry_in_range v (keeps_treelike g.keeps) j a h k f)

  -- no distance is so large that its key would not fit
  pub distance_small : (j : ℕ) → j < 8 * v.count → filled v j ≡ true → distance_to v p j ≤ 8000000000000
  distance_small j h f = omega (arith, mindist_small (axes_of p (bounds_of v j)) (slot_ready j h f))
