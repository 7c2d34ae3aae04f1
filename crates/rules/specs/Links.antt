-- Rule 14: the root has level H-1 and no slot names it; each other node is named by exactly one inner slot; a named
-- node's level is one less than that of the node naming it.
use Rattle.std.specs.Prelude.{◌≡◌, Bool, true, cond, ◌&&◌, ◌||◌, ℕ, ◌+◌, ◌*◌, ◌/◌, ◌<◌, eqb}
use Rattle.numbers.specs.Below.{all_below, count_below}
use Rattle.floor.specs.View.{View, filled, leaf, link}

-- slot j names node t
abbrev pub names : View → ℕ → ℕ → Bool
names v t j = link v j && eqb (v.ref j) t

-- along every link there is a node
abbrev pub Linked : View → Type 0
Linked v = (j : ℕ) → j < 8 * v.count → link v j ≡ true → v.ref j < v.count

-- how many slots name node t
unfoldable pub named : View → ℕ → ℕ
named v t = count_below (names v t) (8 * v.count)

-- a node named as often as it should be, and the root at the top level
unfoldable pub named_ok : View → ℕ → Bool
named_ok v n = cond (eqb n v.root) (eqb (named v n) 0 && eqb (v.level n + 1) v.height) (eqb (named v n) 1)

-- of a node above the leaves: a filled slot names a node one level lower
unfoldable pub step_ok : View → ℕ → Bool
step_ok v j = cond (filled v j) (eqb (v.level (v.ref j) + 1) (v.level (j / 8))) true

-- the rule, of node n
unfoldable pub links_ok : View → ℕ → Bool
links_ok v n = named_ok v n && (leaf v n || all_below (λ i. step_ok v (8 * n + i)) 8)

-- the property
pub record WellLinked (v : View) (n : ℕ) : Type 0 where
  pub unnamed : n ≡ v.root → named v n ≡ 0
  pub top : n ≡ v.root → v.level n + 1 ≡ v.height
  pub once : (n ≡ v.root → ⊥) → named v n ≡ 1
  pub falls : (i : ℕ) → i < 8 → link v (8 * n + i) ≡ true → v.level (v.ref (8 * n + i)) + 1 ≡ v.level n
