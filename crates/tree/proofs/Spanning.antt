-- The bays below the root of a map that is a tree are its bays, each once: going down the tree reaches what the flat definition
-- lists. Over the numbers of slots, so that no measure, badge or order is spoken of. Assumes nothing.
use Prim.Native.Nat.{ℕ, zero, suc, ◌+◌, ◌*◌, ◌/◌, ◌%◌, ◌<◌}
use native.Mathlib.Omega.{arith}
use mathlib.Core.Path.{◌≡◌, refl, sym, ap, ◌∙◌}
use mathlib.Core.Bool.{true, not}
use mathlib.Core.List.Memᴰ
use mathlib.Core.List.{[], ◌∷◌, Memᴰ}
use borrow.Author.Tests.{eqb-true, ne_eqb}
use Rattle.std.proofs.lemmas.Bool.{and_parts}
use Rattle.floor.specs.View.{View, filled, leaf, bay, link}
use Rattle.order.specs.Order.{Once, Disjoint, Same}
use Rattle.order.proofs.Place.{by_test}
use Rattle.order.proofs.Only.{chosen_out, gather_each}
use Rattle.order.proofs.Parts.{gather_in, gather_once}
use Rattle.tree.specs.Treelike.{Treelike}
use Rattle.tree.specs.Flat.{bay_in, all_bays}
use Rattle.tree.specs.Under.{Under, here, down, slot_bays, part_bays, node_bays}
use Rattle.tree.proofs.Tree.{link_leads, link_falls, covered, siblings_apart}

module _ (v : View) where
  pub flat_once : Once (all_bays v)
  unfolding all_bays Once
  flat_once = gather_once (bay_in v) (8 * v.count) one cross
    where
      one : (j : ℕ) → j < 8 * v.count → Once (bay_in v j)
      one j h = by_test (bay v j) (λ t. rw t (Memᴰ.not-nil, tt)) (λ t. rw t tt)

      cross : (i j : ℕ) → i < j → j < 8 * v.count → Disjoint (bay_in v i) (bay_in v j)
      cross i j h k x m n =
          let o = chosen_out (bay v i) (i ∷ []) x m in
          let p = chosen_out (bay v j) (j ∷ []) x n in
          absurd (omega (arith, Memᴰ.eq_of_singleton o.1, Memᴰ.eq_of_singleton p.1))

  pub flat_bays : (x : ℕ) → Memᴰ x (all_bays v) → (x < 8 * v.count) × (bay v x ≡ true)
  unfolding all_bays
  flat_bays = gather_each (λ x. (x < 8 * v.count) × (bay v x ≡ true)) (bay_in v) (8 * v.count)
      (λ j h x m. let o = chosen_out (bay v j) (j ∷ []) x m in rw (Memᴰ.eq_of_singleton o.1) (h, o.0))

module _ (v : View) (tree : Treelike v) where
  -- x is the slot of a bay below node n
  pub record From (n x : ℕ) : Type 0 where
    pub inside : x < 8 * v.count
    pub is_bay : bay v x ≡ true
    pub under : Under v n x

  slot_bay : (j : ℕ) → v.level (j / 8) ≡ 0 → filled v j ≡ true → bay v j ≡ true
  slot_bay j e f = rw (e, f)

  pub slot_link : (j l : ℕ) → v.level (j / 8) ≡ suc l → filled v j ≡ true → link v j ≡ true
  slot_link j l e f = rw (ne_eqb (v.level (j / 8)) 0 (omega (arith, e)), f)

  pub fallen : (j l : ℕ) → j < 8 * v.count → v.level (j / 8) ≡ suc l → link v j ≡ true → v.level (v.ref j) ≡ l
  fallen j l h e k = omega (arith, link_falls v tree j h k, e)

  -- ---- what is below comes from a slot below

  from_parts : (l n : ℕ) → n < v.count
      → ((j : ℕ) → j < 8 * v.count → j / 8 ≡ n → filled v j ≡ true → (x : ℕ) → Memᴰ x (slot_bays v l j) → From n x)
      → (x : ℕ) → Memᴰ x (node_bays v l n) → From n x
  from_parts l n h g =
      gather_each (From n) (part_bays v l n) 8
      (λ i k x m. let o = chosen_out (filled v (8 * n + i)) (slot_bays v l (8 * n + i)) x m in g (8 * n + i) (omega arith) (omega arith) o.0 x o.1)

  pub from_slot : (l j : ℕ) → j < 8 * v.count → filled v j ≡ true → v.level (j / 8) ≡ l
      → (x : ℕ) → Memᴰ x (slot_bays v l j) → From (j / 8) x
  unfolding slot_bays
  from_slot zero j h f e x m = rw (Memᴰ.eq_of_singleton m) (record { inside = h; is_bay = slot_bay j e f; under = here refl })
  from_slot (suc l) j h f e x m =
      let k = slot_link j l e f in
      let o = from_parts l (v.ref j) (link_leads v tree j h k) (λ i b q g y n. rw q at (from_slot l i b g (rw q (fallen j l h e k)) y n)) x m in
      record { inside = o.inside; is_bay = o.is_bay; under = down j h k refl o.under }

  pub from_node : (l n : ℕ) → n < v.count → v.level n ≡ l → (x : ℕ) → Memᴰ x (node_bays v l n) → From n x
  from_node l n h e = from_parts l n h (λ j b q f x m. rw q at (from_slot l j b f (rw q e) x m))

  -- ---- a bay below is among what is below

  in_part : (l n j x : ℕ) → j / 8 ≡ n → filled v j ≡ true → Memᴰ x (slot_bays v l j) → Memᴰ x (node_bays v l n)
  in_part l n j x q f m =
      let e : 8 * n + j % 8 ≡ j = omega arith in
      gather_in (part_bays v l n) 8 (j % 8) x (omega arith) (rw (e, f) m)

  to_node : (n k : ℕ) → k < 8 * v.count → bay v k ≡ true → Under v n k → Memᴰ k (node_bays v (v.level n) n)
  unfolding slot_bays
  to_node n k h b (here q) =
      let p = and_parts (leaf v (k / 8)) (filled v k) b in
      let z : v.level n ≡ 0 = ap v.level (sym q) ∙ eqb-true (v.level (k / 8)) 0 p.0 in
      rw z (in_part 0 n k k q p.1 (Memᴰ.head refl))
  to_node n k h b (down j i l q u) =
      let s : v.level n ≡ suc (v.level (v.ref j)) = omega (arith, ap v.level q, link_falls v tree j i l) in
      rw s (in_part (suc (v.level (v.ref j))) n j k q (and_parts (not (leaf v (j / 8))) (filled v j) l).1 (to_node (v.ref j) k h b u))

  -- ---- each once

  -- what two slots of one node bring is not the same
  slots_apart : (l i j : ℕ) → i < 8 * v.count → j < 8 * v.count → filled v i ≡ true → filled v j ≡ true
      → i / 8 ≡ j / 8 → v.level (j / 8) ≡ l → (i ≡ j → ⊥) → Disjoint (slot_bays v l i) (slot_bays v l j)
  unfolding slot_bays
  slots_apart zero i j hi hj fi fj q e ne x m k = ne (sym (Memᴰ.eq_of_singleton m) ∙ Memᴰ.eq_of_singleton k)
  slots_apart (suc l) i j hi hj fi fj q e ne x m k =
      let li = slot_link i l (ap v.level q ∙ e) fi in
      let lj = slot_link j l e fj in
      let o = from_node l (v.ref i) (link_leads v tree i hi li) (fallen i l hi (ap v.level q ∙ e) li) x m in
      let p = from_node l (v.ref j) (link_leads v tree j hj lj) (fallen j l hj e lj) x k in
      ne (siblings_apart v tree x i j hi hj li lj q o.under p.under)

  pub parts_apart : (l n : ℕ) → n < v.count → v.level n ≡ l → (a b : ℕ) → a < 8 → b < 8 → (a ≡ b → ⊥)
      → Disjoint (part_bays v l n a) (part_bays v l n b)
  parts_apart l n h e a b ha hb ne x m k =
      let o = chosen_out (filled v (8 * n + a)) (slot_bays v l (8 * n + a)) x m in
      let p = chosen_out (filled v (8 * n + b)) (slot_bays v l (8 * n + b)) x k in
      let q : (8 * n + b) / 8 ≡ n = omega arith in
      slots_apart l (8 * n + a) (8 * n + b) (omega arith) (omega arith) o.0 p.0 (omega arith) (rw q e) (λ s. ne (omega (arith, s))) x o.1 p.1

  parts_once : (l n : ℕ) → n < v.count → v.level n ≡ l
      → ((j : ℕ) → j < 8 * v.count → j / 8 ≡ n → filled v j ≡ true → Once (slot_bays v l j)) → Once (node_bays v l n)
  unfolding Once
  parts_once l n h e g = gather_once (part_bays v l n) 8 one (λ a b k q. parts_apart l n h e a b (omega arith) q (λ s. absurd (omega (arith, s))))
    where
      one : (i : ℕ) → i < 8 → Once (part_bays v l n i)
      one i k = by_test (filled v (8 * n + i)) (λ t. rw t (g (8 * n + i) (omega arith) (omega arith) t)) (λ t. rw t tt)

  pub slot_once : (l j : ℕ) → j < 8 * v.count → filled v j ≡ true → v.level (j / 8) ≡ l → Once (slot_bays v l j)
  unfolding slot_bays Once
  slot_once zero j h f e = (Memᴰ.not-nil, tt)
  slot_once (suc l) j h f e =
      let k = slot_link j l e f in
      let g = fallen j l h e k in
      parts_once l (v.ref j) (link_leads v tree j h k) g (λ i b q t. slot_once l i b t (rw q g))

  pub node_once : (l n : ℕ) → n < v.count → v.level n ≡ l → Once (node_bays v l n)
  node_once l n h e = parts_once l n h e (λ j b q f. slot_once l j b f (rw q e))

  -- ---- the root

  -- going down from the root reaches every bay, and nothing else
  pub spanning : Same (all_bays v) (node_bays v (v.level v.root) v.root)
  unfolding all_bays
  spanning =
      record {
        there = λ x m. let b = flat_bays v x m in to_node v.root x b.0 b.1 (covered v tree x b.0);
        back = λ x m. let o = from_node (v.level v.root) v.root tree.rooted refl x m in
            gather_in (bay_in v) (8 * v.count) x x o.inside (rw o.is_bay (Memᴰ.head refl));
      }
