-- A tree of height 7 has at least 729 nodes: there are two or more below the root, and three or more below each other node
-- above the leaves. So a map of at most 256 nodes is at most 6 high, whatever its header says. Assumes nothing.
use mathlib.Core.Path.{◌≡◌, refl, sym, ap, ◌∙◌}
use mathlib.Core.Bool.{Bool, true, false, ◌&&◌}
use mathlib.Core.List.{List}
use mathlib.Core.Logic.{⊎_elim}
use Prim.Native.Nat.{ℕ, zero, suc, ◌+◌, ◌*◌, ◌-◌, ◌/◌, ◌<◌, ◌≤◌}
use native.Mathlib.Omega.{arith}
use native.Mathlib.Decide.{ℕ_discrete, dec_le}
use native.Mathlib.Nat.{mul-add}
use lib.Count.{ones}
use lib.ListN.{get_or}
use lib.Dec.{eqb, leb}
use borrow.Author.Tests.{eqb-true, eq-eqb, ne_eqb, le-leb, lt-leb}
use Rattle.numbers.specs.Below.{one, count_below}
use Rattle.std.proofs.Math.Bool.{and-true}
use Rattle.std.proofs.lemmas.Bool.{and_parts}
use Rattle.numbers.proofs.Below.{ordered, count_some, count_most, count_agree}
use Rattle.numbers.proofs.Counting.{count_add, count_sum, count_led}
use Rattle.words.specs.Words.{le_at}
use Rattle.floor.specs.View.{View, view_of, filled, link}
use Rattle.floor.specs.Layout.{node_at}
use Rattle.rules.specs.declared.Rule.TheVariants.{Fill}
use Rattle.rules.specs.Verdicts.{KeptAll}
use Rattle.rules.proofs.Filled.{ones_filled}
use Rattle.rules.proofs.Linked.{link_above}
use Rattle.tree.specs.Treelike.{Treelike, Narrow}
use Rattle.tree.proofs.Tree.{link_leads, link_falls, parent_alone}

-- how many nodes have level l, and how many have level l or more
abbrev nodes_at : View → ℕ → ℕ
nodes_at v l = count_below (λ n. eqb (v.level n) l) v.count

abbrev nodes_from : View → ℕ → ℕ
nodes_from v l = count_below (λ n. leb l (v.level n)) v.count

nodes_from_lem : (v : View) (l : ℕ) → nodes_from v l ≡ nodes_at v l + nodes_from v (suc l)
nodes_from_lem v l = count_sum _ (λ n. eqb (v.level n) l) (λ n. leb (suc l) (v.level n)) (λ n. at (v.level n)) v.count
  where
    at : (x : ℕ) → one (leb l x) ≡ one (eqb x l) + one (leb (suc l) x)
    at x =
        ⊎_elim
        (λ h. rw (lt-leb l x h, ne_eqb x l (λ e. omega arith), lt-leb (suc l) x (omega arith)))
        (⊎_elim
        (λ e. rw (e, le-leb l l (omega arith), eq-eqb l l refl, lt-leb (suc l) l (omega arith)))
        (λ h. rw (le-leb l x (omega arith), ne_eqb x l (λ e. omega arith), le-leb (suc l) x (omega arith))))
        (ordered x l)

-- slot j is a filled slot of a node of level l
abbrev stands : View → ℕ → ℕ → Bool
stands v l j = filled v j && eqb (v.level (j / 8)) l

-- the occupancies of a list of bytes are bytes
pub bytes_narrow : (m : List ℕ) → ((k : ℕ) → get_or m k 0 < 256) → Narrow (view_of m)
unfolding view_of le_at
bytes_narrow m b n h = omega (arith, b (node_at n + 1))

module _ (v : View) (narrow : Narrow v) where
  node_stands : (l n : ℕ) → n < v.count → v.level n ≡ l → count_below (λ i. stands v l (8 * n + i)) 8 ≡ ones (v.occupied n)
  node_stands l n h e =
      count_agree (λ i. filled v (8 * n + i)) (λ i. stands v l (8 * n + i)) 8 same ∙ sym (ones_filled v n (narrow n h))
    where
      same : (i : ℕ) → i < 8 → stands v l (8 * n + i) ≡ filled v (8 * n + i)
      same i m =
          let q : (8 * n + i) / 8 ≡ n = omega arith in
          rw (eq-eqb (v.level ((8 * n + i) / 8)) l (ap v.level q ∙ e)) (and-true (filled v (8 * n + i)))

  -- where each node of a level has c filled slots or more
  level_stands : (c l : ℕ) → ((n : ℕ) → n < v.count → v.level n ≡ l → c ≤ ones (v.occupied n)) → (m : ℕ) → m ≤ v.count → c * count_below (λ n. eqb (v.level n) l) m ≤ count_below (stands v l) (8 * m)
  level_stands c l f zero h = omega arith
  level_stands c l f (suc m) h =
      let e : 8 * suc m ≡ 8 * m + 8 = omega arith in
      rw (e, count_add (stands v l) (8 * m) 8) (by (eqb (v.level m) l) refl (level_stands c l f m (omega arith)))
    where
      by : (t : Bool) → eqb (v.level m) l ≡ t → c * count_below (λ n. eqb (v.level n) l) m ≤ count_below (stands v l) (8 * m) → c * (count_below (λ n. eqb (v.level n) l) m + one t) ≤ count_below (stands v l) (8 * m) + count_below (λ i. stands v l (8 * m + i)) 8
      by false e ih =
          rw (mul-add c (count_below (λ n. eqb (v.level n) l) m) 0) (omega arith)
      by true e ih =
          let q = eqb-true (v.level m) l e in
          rw (mul-add c (count_below (λ n. eqb (v.level n) l) m) 1) (omega (arith, f m (omega arith) q, node_stands l m (omega arith) q))

module _ (v : View) (tree : Treelike v) where
  -- a filled slot of a level names a node one level lower, and no two name the same
  level_names : (l : ℕ) → count_below (stands v (suc l)) (8 * v.count) ≤ nodes_at v l
  level_names l = count_led v.ref (λ n. eqb (v.level n) l) (8 * v.count) v.count (stands v (suc l)) leads once
    where
      high : (j : ℕ) → stands v (suc l) j ≡ true → v.level (j / 8) ≡ suc l
      high j e = eqb-true (v.level (j / 8)) (suc l) (and_parts (filled v j) (eqb (v.level (j / 8)) (suc l)) e).1

      linked : (j : ℕ) → stands v (suc l) j ≡ true → link v j ≡ true
      linked j e =
          let h = high j e in
          link_above v j (ne_eqb (v.level (j / 8)) 0 (λ z. omega arith)) ∙ (and_parts (filled v j) (eqb (v.level (j / 8)) (suc l)) e).0

      leads : (j : ℕ) → j < 8 * v.count → stands v (suc l) j ≡ true → (v.ref j < v.count) × (eqb (v.level (v.ref j)) l ≡ true)
      leads j h e = (
        link_leads v tree j h (linked j e),
        eq-eqb (v.level (v.ref j)) l (omega (arith, high j e, link_falls v tree j h (linked j e))),
      )

      once : (i j : ℕ) → i < 8 * v.count → j < 8 * v.count → stands v (suc l) i ≡ true → stands v (suc l) j ≡ true → v.ref i ≡ v.ref j → i ≡ j
      once i j a b x y q = parent_alone v tree i j a b (linked i x) (linked j y) q

module _ (v : View) (tree : Treelike v) (fill : KeptAll Fill v) (narrow : Narrow v) where
  root_top : v.level v.root + 1 ≡ v.height
  root_top = (tree.links v.root tree.rooted).top refl

  -- where each node of a level above the leaves has c filled slots or more, the level below has c times its nodes
  below_level : (c l : ℕ) → ((n : ℕ) → n < v.count → v.level n ≡ suc l → c ≤ ones (v.occupied n)) → c * nodes_at v (suc l) ≤ nodes_at v l
  below_level c l f = omega (arith, level_names v tree l, level_stands v narrow c (suc l) f v.count (omega arith))

  top_some : (l : ℕ) → v.height ≡ suc l → 1 ≤ nodes_at v l
  top_some l e =
      count_some (λ n. eqb (v.level n) l) v.count v.root tree.rooted (eq-eqb (v.level v.root) l (omega (arith, root_top)))

  below_root : (l : ℕ) → v.height ≡ suc (suc l) → 2 ≤ nodes_at v l
  below_root l e = omega (arith, top_some (suc l) e, below_level 2 l two)
    where
      two : (n : ℕ) → n < v.count → v.level n ≡ suc l → 2 ≤ ones (v.occupied n)
      two n h q =
          elim (ℕ_discrete n v.root) [
            | yes r ↦ ⊎_elim (λ z. absurd (omega arith)) (λ z. z) ((fill n h).root r)
            | no d ↦ omega (arith, (fill n h).other d)
          ]

  below_node : (l : ℕ) → suc (suc l) < v.height → 3 * nodes_at v (suc l) ≤ nodes_at v l
  below_node l e =
      below_level 3 l (λ n h q. (fill n h).other (λ r. omega (arith, root_top, ap v.level r)))

  pub tall_large : 7 ≤ v.height → 729 ≤ v.count
  tall_large h = seven (v.height - 7) (omega arith)
    where
      seven : (k : ℕ) → v.height ≡ suc (suc (suc (suc (suc (suc (suc k)))))) → 729 ≤ v.count
      seven k e =
          omega (
            arith,
            top_some (suc (suc (suc (suc (suc (suc k)))))) e,
            below_root (suc (suc (suc (suc (suc k))))) e,
            below_node (suc (suc (suc (suc k)))) (omega arith),
            below_node (suc (suc (suc k))) (omega arith),
            below_node (suc (suc k)) (omega arith),
            below_node (suc k) (omega arith),
            below_node k (omega arith),
            nodes_from_lem v k,
            nodes_from_lem v (suc k),
            nodes_from_lem v (suc (suc k)),
            nodes_from_lem v (suc (suc (suc k))),
            nodes_from_lem v (suc (suc (suc (suc k)))),
            nodes_from_lem v (suc (suc (suc (suc (suc k))))),
            nodes_from_lem v (suc (suc (suc (suc (suc (suc k)))))),
            count_most (λ n. leb k (v.level n)) v.count,
          )

  pub height_low : v.count ≤ 256 → v.height ≤ 6
  height_low h =
      elim (dec_le v.height 6) [ yes p ↦ p | no q ↦ absurd (omega (arith, tall_large (omega arith))) ]
