-- The keys of the bays below a slot or a node: each is the key of one bay, different bays have keys that the order tells
-- apart, and none is nearer than the slot that it lies below. Assumes nothing.
use Prim.Native.Nat.{ℕ, zero, suc, ◌+◌, ◌*◌, ◌/◌, ◌<◌, ◌≤◌}
use native.Mathlib.Omega.{arith}
use mathlib.Core.Path.{◌≡◌, ap, ◌∙◌}
use mathlib.Core.Bool.{true}
use mathlib.Core.List.Memᴰ
use mathlib.Core.List.{List, Memᴰ}
use Rattle.std.proofs.lemmas.Bool.{and_parts}
use Rattle.floor.specs.View.{View, filled, leaf, bay}
use Rattle.rules.specs.declared.Rule.TheVariants.{Bays}
use Rattle.rules.specs.Verdicts.{Keeps}
use Rattle.tree.specs.Under.{slot_bays, part_bays}
use Rattle.rules.proofs.Verdicts.{shaped}
use Rattle.tree.specs.Treelike.{Treelike}
use Rattle.tree.proofs.Tree.{keeps_treelike, link_leads, bays_apart}
use Rattle.tree.proofs.Spanning.{slot_link, fallen, from_slot, from_node, parts_apart}
use Rattle.order.specs.Order.{only, Apart, Cross, Distinct, Once, Same}
use Rattle.order.proofs.Only.{only_out, chosen_out}
use Rattle.order.proofs.Parts.{only_same, only_once}
use Rattle.order.proofs.Mapped.{map_same, once_distinct}
use Rattle.question.specs.declared.Question.{Question}
use Rattle.question.proofs.Before.{told_apart}
use Rattle.nearest.specs.Shown.{mark_at}
use Rattle.nearest.specs.Asked.{wanted_by}
use Rattle.nearest.specs.Best.{key_of, far_in, sooner}
use Rattle.nearest.specs.Searched.{wanted_keys}
use Rattle.nearest.proofs.Measured.{Grows}
use Rattle.nearest.proofs.Keys.{far_back, mark_back}

-- the slot of a bay of the map
abbrev pub BaySlot : View → ℕ → Type 0
BaySlot v j = (j < 8 * v.count) × (bay v j ≡ true)

module _ (v : View) (distance : ℕ → ℕ) (q : Question) where
  -- a key that is wanted is that of a slot
  pub key_out : (x : ℕ) (slots : List ℕ) → Memᴰ x (wanted_keys v distance q slots) → (j : ℕ) × Memᴰ j slots × (key_of distance j ≡ x)
  unfolding wanted_keys
  key_out x slots m =
      let w = Memᴰ.of_map (key_of distance) (only (wanted_by v distance q) slots) m in
      (w.0, (only_out (wanted_by v distance q) w.0 slots w.1).0, w.2)

  pub keys_same : (es fs : List ℕ) → Same es fs → Same (wanted_keys v distance q es) (wanted_keys v distance q fs)
  unfolding wanted_keys
  keys_same es fs s =
      map_same (key_of distance) (only (wanted_by v distance q) es) (only (wanted_by v distance q) fs) (only_same (wanted_by v distance q) es fs s)

module _ (v : View) (keeps : Keeps v) (distance : ℕ → ℕ) where
  -- a key holds every slot of a map
  pub slot_low : (j : ℕ) → j < 8 * v.count → j < 2048
  slot_low j h = omega (arith, (shaped keeps.header).few)

  tree : Treelike v
  tree = keeps_treelike keeps

  keys_apart : (i j : ℕ) → BaySlot v i → BaySlot v j → (i ≡ j → ⊥) → Apart (sooner v) (key_of distance i) (key_of distance j)
  keys_apart i j h k ne =
      rw (mark_back distance i (slot_low i h.0) v, mark_back distance j (slot_low j k.0) v)
      (told_apart (mark_at v distance i) (mark_at v distance j) (λ e. ne (bays_apart v (keeps.rules Bays) i j h.0 k.0 h.1 k.1 e)))

  part_bay : (l n : ℕ) → n < v.count → v.level n ≡ l → (i j : ℕ) → i < 8 → Memᴰ j (part_bays v l n i) → BaySlot v j
  part_bay l n h e i j k m =
      let here : (8 * n + i) / 8 ≡ n = omega arith in
      let c = chosen_out (filled v (8 * n + i)) (slot_bays v l (8 * n + i)) j m in
      let o = from_slot v tree l (8 * n + i) (omega arith) c.0 (ap v.level here ∙ e) j c.1 in
      (o.inside, o.is_bay)

  -- no bay below a slot is nearer than the slot
  slot_far : Grows v distance → (l j : ℕ) → j < 8 * v.count → filled v j ≡ true → v.level (j / 8) ≡ l
      → (k : ℕ) → Memᴰ k (slot_bays v l j) → distance j ≤ distance k
  unfolding slot_bays
  slot_far grows zero j h f e k m = rw (Memᴰ.eq_of_singleton m) (omega arith)
  slot_far grows (suc l) j h f e k m =
      let s = slot_link v tree j l e f in
      let o = from_node v tree l (v.ref j) (link_leads v tree j h s) (fallen v tree j l h e s) k m in
      grows j k h o.inside s (and_parts (leaf v (k / 8)) (filled v k) o.is_bay).1 o.under

  module _ (q : Question) where
    pub keys_distinct : (slots : List ℕ) → Once slots → ((j : ℕ) → Memᴰ j slots → BaySlot v j) → Distinct (sooner v) (wanted_keys v distance q slots)
    unfolding wanted_keys
    keys_distinct slots o h =
        once_distinct (key_of distance) (sooner v) (only (wanted_by v distance q) slots) (only_once (wanted_by v distance q) slots o)
        (λ i j m n. keys_apart i j (h i (only_out (wanted_by v distance q) i slots m).0) (h j (only_out (wanted_by v distance q) j slots n).0))

    module _ (l n : ℕ) (h : n < v.count) (e : v.level n ≡ l) where
      -- the keys of what slot i of node n brings
      abbrev pub part_keys : ℕ → List ℕ
      part_keys i = wanted_keys v distance q (part_bays v l n i)

      pub keys_cross : (a b : ℕ) → a < 8 → b < 8 → (a ≡ b → ⊥) → Cross (sooner v) (part_keys a) (part_keys b)
      keys_cross a b ha hb ne x y m k =
          let i = key_out v distance q x (part_bays v l n a) m in
          let j = key_out v distance q y (part_bays v l n b) k in
          rw (← i.2, ← j.2)
          (keys_apart i.0 j.0 (part_bay l n h e a i.0 ha i.1) (part_bay l n h e b j.0 hb j.1)
          (λ s. parts_apart v tree l n h e a b ha hb ne i.0 i.1 (Memᴰ.cast s j.1)))

      -- no key of a part is nearer than its slot
      pub keys_far : Grows v distance → (i : ℕ) → i < 8 → (x : ℕ) → Memᴰ x (part_keys i) → distance (8 * n + i) ≤ far_in x
      keys_far grows i k x m =
          let o = key_out v distance q x (part_bays v l n i) m in
          let c = chosen_out (filled v (8 * n + i)) (slot_bays v l (8 * n + i)) o.0 o.1 in
          let here : (8 * n + i) / 8 ≡ n = omega arith in
          let far = slot_far grows l (8 * n + i) (omega arith) c.0 (ap v.level here ∙ e) o.0 c.1 in
          let is = far_back distance o.0 (slot_low o.0 (part_bay l n h e i o.0 k o.1).0) in
          rw (← o.2, is) far
