-- What the rules make of a view: a tree. Every slot lies below the root, on one way only, and within every box on that
-- way; no two bays are one. Assumes nothing.
use mathlib.Core.Path.{◌≡◌, refl, sym, ap, ◌∙◌}
use mathlib.Core.Bool.{true}
use mathlib.Core.Logic.{⊎_elim}
use Prim.Native.Nat.{ℕ, zero, suc, ◌+◌, ◌*◌, ◌-◌, ◌/◌, ◌%◌, ◌<◌, ◌≤◌}
use native.Mathlib.Omega.{arith}
use native.Mathlib.Decide.{ℕ_discrete}
use lib.Dec.{eqb}
use borrow.Author.Tests.{eqb-true, eq-eqb}
use Rattle.std.proofs.lemmas.Bool.{and_parts}
use Rattle.numbers.proofs.Below.{ordered, count_some, count_two, count_found}
use Rattle.numbers.proofs.Exactly.{by_eights}
use Rattle.numbers.proofs.Order.{test_le}
use Rattle.measure.specs.Axis.{span_in}
use Rattle.floor.specs.View.{View, filled, bay, link}
use Rattle.floor.specs.Layout.{axis_count}
use Rattle.rules.specs.declared.Rule.TheVariants.{Form, Links, Boxes, Bays}
use Rattle.rules.specs.Form.{Entry}
use Rattle.rules.specs.Links.{names, named}
use Rattle.rules.specs.Boxes.{Side, Low, High, as_far, end_of, hull}
use Rattle.rules.specs.Verdicts.{KeptAll, Keeps}
use Rattle.rules.proofs.Linked.{link_filled}
use Rattle.rules.proofs.Hull.{far_through, hull_holds}
use Rattle.rules.proofs.Verdicts.{form_links}
use Rattle.tree.specs.Treelike.{Treelike}
use Rattle.tree.specs.Under.{Under, here, down, InBox}

pub keeps_treelike : {v : View} → Keeps v → Treelike v
keeps_treelike k =
    record { rooted = k.header.rooted; form = k.rules Form; links = k.rules Links; boxes = k.rules Boxes }

-- bays with one number are one slot
pub bays_apart : (v : View) → KeptAll Bays v → (j k : ℕ) → j < 8 * v.count → k < 8 * v.count → bay v j ≡ true → bay v k ≡ true → v.ref j ≡ v.ref k → j ≡ k
bays_apart v apart j k h =
    by_eights
    (λ j. k < 8 * v.count → bay v j ≡ true → bay v k ≡ true → v.ref j ≡ v.ref k → j ≡ k)
    v.count
    (λ n l i m. apart n l i k m)
    j
    h

module _ (v : View) (tree : Treelike v) where
  -- ---- what the rules say, slot by slot

  pub entry : (j : ℕ) → j < 8 * v.count → filled v j ≡ true → Entry v j
  entry = by_eights (λ j. filled v j ≡ true → Entry v j) v.count (λ n h. (tree.form n h).entries)

  pub entry_in_range : (j a : ℕ) → j < 8 * v.count → a < axis_count → filled v j ≡ true → span_in (v.span j a) ≡ true
  entry_in_range j a h k f = (entry j h f).spans a k

  pub link_leads : (j : ℕ) → j < 8 * v.count → link v j ≡ true → v.ref j < v.count
  link_leads = form_links v tree.form

  pub link_falls : (j : ℕ) → j < 8 * v.count → link v j ≡ true → v.level (v.ref j) + 1 ≡ v.level (j / 8)
  link_falls =
      by_eights (λ j. link v j ≡ true → v.level (v.ref j) + 1 ≡ v.level (j / 8)) v.count (λ n h i k l.
      let e : (8 * n + i) / 8 ≡ n = omega arith in
      (tree.links n h).falls i k l ∙ ap v.level (sym e))

  pub link_tight : (j : ℕ) → j < 8 * v.count → link v j ≡ true → (a : ℕ) → a < axis_count → v.span j a ≡ hull v a (v.ref j) 8
  link_tight =
      by_eights (λ j. link v j ≡ true → (a : ℕ) → a < axis_count → v.span j a ≡ hull v a (v.ref j) 8) v.count tree.boxes

  -- ---- the slot that names a node: none names the root, and just one any other

  node_low : (n : ℕ) → n < v.count → v.level n < v.height
  node_low n h = (tree.form n h).low

  pub root_unnamed : named v v.root ≡ 0
  root_unnamed = (tree.links v.root tree.rooted).unnamed refl

  pub named_once : (t : ℕ) → t < v.count → (t ≡ v.root → ⊥) → named v t ≡ 1
  named_once t h = (tree.links t h).once

  -- the slot that names a node other than the root
  record Parent (t : ℕ) : Type 0 where
    slot : ℕ
    below : slot < 8 * v.count
    links : link v slot ≡ true
    leads : v.ref slot ≡ t
    higher : v.level (slot / 8) ≡ v.level t + 1

  parent : (t : ℕ) → t < v.count → (t ≡ v.root → ⊥) → Parent t
  unfolding named
  parent t h d =
      let f = count_found (names v t) (8 * v.count) (omega (arith, named_once t h d)) in
      let p = and_parts (link v f.at) (eqb (v.ref f.at) t) f.passes in
      let r = eqb-true (v.ref f.at) t p.1 in
      record {
        slot = f.at;
        below = f.below;
        links = p.0;
        leads = r;
        higher = sym (link_falls f.at f.below p.0) ∙ ap (λ x. v.level x + 1) r;
      }

  -- what a slot names is not the root
  pub link_below : (j : ℕ) → j < 8 * v.count → link v j ≡ true → v.ref j ≡ v.root → ⊥
  unfolding named
  link_below j h l q =
      omega (arith, count_some (names v (v.ref j)) (8 * v.count) j h (rw (l, eq-eqb (v.ref j) (v.ref j) refl)), ap (named v) q ∙ root_unnamed)

  -- two slots that lead to one node are one slot
  pub parent_alone : (i j : ℕ) → i < 8 * v.count → j < 8 * v.count → link v i ≡ true → link v j ≡ true → v.ref i ≡ v.ref j → i ≡ j
  unfolding named
  parent_alone i j hi hj li lj e =
      ⊎_elim (λ l. absurd (twice i j l hj ni nj)) (⊎_elim (λ q. q) (λ l. absurd (twice j i l hi nj ni))) (ordered i j)
    where
      t : ℕ
      t = v.ref j

      ni : names v t i ≡ true
      ni = rw (li, eq-eqb (v.ref i) t e)

      nj : names v t j ≡ true
      nj = rw (lj, eq-eqb t t refl)

      twice : (x y : ℕ) → x < y → y < 8 * v.count → names v t x ≡ true → names v t y ≡ true → ⊥
      twice x y l hy a b =
          omega (arith, count_two (names v t) (8 * v.count) x y l hy a b, named_once t (link_leads j hj lj) (link_below j hj lj))

  -- the root alone stands at the top level
  pub top_alone : (n : ℕ) → n < v.count → v.level n + 1 ≡ v.height → n ≡ v.root
  top_alone n h e = elim (ℕ_discrete n v.root) [ yes q ↦ q | no d ↦ absurd (over (parent n h d)) ]
    where
      over : Parent n → ⊥
      over p = let b = p.below in omega (arith, p.higher, node_low (p.slot / 8) (omega arith))

  -- ---- the ways down

  -- from a node up to the root, d levels
  climb : (k d t : ℕ) → t < v.count → v.level t + suc d ≡ v.height → Under v t k → Under v v.root k
  climb k zero t h e u = rw (top_alone t h e) at u
  climb k (suc d) t h e u =
      elim (ℕ_discrete t v.root) [
        | yes q ↦ rw q at u
        | no n ↦
            let p = parent t h n in
            let b = p.below in
            climb k d (p.slot / 8) (omega arith) (omega (arith, p.higher)) (down p.slot b p.links refl (rw p.leads u))
      ]

  -- every slot of every node lies below the root
  pub covered : (k : ℕ) → k < 8 * v.count → Under v v.root k
  covered k h =
      let b : k / 8 < v.count = omega arith in
      let l = node_low (k / 8) b in
      climb k (v.height - suc (v.level (k / 8))) (k / 8) b (omega arith) (here refl)

  falls_from : (j t : ℕ) → j < 8 * v.count → link v j ≡ true → j / 8 ≡ t → v.level (v.ref j) + 1 ≡ v.level t
  falls_from j t h l e = link_falls j h l ∙ ap v.level e

  lower : (k t : ℕ) → Under v t k → v.level (k / 8) ≤ v.level t
  lower k t (here e) = omega (arith, ap v.level e)
  lower k t (down j h l e u) = omega (arith, lower k (v.ref j) u, falls_from j t h l e)

  -- of one level, a slot lies below one node only
  pub one_way : (k s t : ℕ) → Under v s k → Under v t k → v.level s ≡ v.level t → s ≡ t
  one_way k s t (here e) (here f) q = sym e ∙ f
  one_way k s t (here e) (down j h l f u) q =
      absurd (omega (arith, ap v.level e, lower k (v.ref j) u, falls_from j t h l f))
  one_way k s t (down i g m e w) (here f) q =
      absurd (omega (arith, ap v.level f, lower k (v.ref i) w, falls_from i s g m e))
  one_way k s t (down i g m e w) (down j h l f u) q =
      let b : v.level (v.ref i) ≡ v.level (v.ref j) = omega (arith, falls_from i s g m e, falls_from j t h l f) in
      sym e ∙ ap (λ x. x / 8) (parent_alone i j g h m l (one_way k (v.ref i) (v.ref j) w u b)) ∙ f

  -- two slots of one node have nothing in common below them
  pub siblings_apart : (k i j : ℕ) → i < 8 * v.count → j < 8 * v.count → link v i ≡ true → link v j ≡ true → i / 8 ≡ j / 8 → Under v (v.ref i) k → Under v (v.ref j) k → i ≡ j
  siblings_apart k i j hi hj li lj e u w =
      let b : v.level (v.ref i) ≡ v.level (v.ref j) = omega (arith, falls_from i (j / 8) hi li e, link_falls j hj lj) in
      parent_alone i j hi hj li lj (one_way k (v.ref i) (v.ref j) u w b)

  -- ---- boxes

  module _ (a : ℕ) (ha : a < axis_count) (side : Side) where
    -- on axis a and this side, slot j reaches as far out as slot k
    abbrev AsFar : ℕ → ℕ → Type 0
    AsFar j k = as_far side (end_of side (v.span j a)) (end_of side (v.span k a)) ≡ true

    pub child_within : (j k : ℕ) → j < 8 * v.count → link v j ≡ true → k / 8 ≡ v.ref j → filled v k ≡ true → AsFar j k
    child_within j k h l e f =
        let q : 8 * v.ref j + k % 8 ≡ k = omega arith in
        rw (link_tight j h l a ha) (rw q at (hull_holds v a (v.ref j) side 8 (k % 8) (omega arith) (rw q f)))

    -- t is the node that slot j names
    all_within : (j k t : ℕ) → j < 8 * v.count → link v j ≡ true → v.ref j ≡ t → filled v k ≡ true → Under v t k → AsFar j k
    all_within j k t h l n f (here e) = child_within j k h l (e ∙ sym n) f
    all_within j k t h l n f (down i g m e u) =
        far_through
        side
        (end_of side (v.span j a))
        (end_of side (v.span i a))
        (end_of side (v.span k a))
        (child_within j i h l (e ∙ sym n) (link_filled v i m))
        (all_within i k (v.ref i) g m refl f u)

  -- whatever lies below the node that a slot names lies within the slot's box
  pub inside : (j k : ℕ) → j < 8 * v.count → link v j ≡ true → filled v k ≡ true → Under v (v.ref j) k → InBox v j k
  inside j k h l f u a ha =
      record {
        low = test_le (all_within a ha Low j k (v.ref j) h l refl f u);
        high = test_le (all_within a ha High j k (v.ref j) h l refl f u);
      }
