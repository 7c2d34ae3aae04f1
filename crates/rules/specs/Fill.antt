-- Rule 13: a root that is a leaf has 0 to 8 filled slots; any other root 2 to 8; every other node 3 to 8.
use Rattle.std.specs.Prelude.{◌≡◌, Bool, cond, ◌||◌, ◌⊎◌, ℕ, ◌≤◌, eqb, leb}
use Rattle.std.specs.Int.Count.{ones}
use Rattle.floor.specs.View.{View, leaf}

-- the rule, of node n: an occupancy has eight bits, so that 8 is never passed
unfoldable pub fill_ok : View → ℕ → Bool
fill_ok v n = cond (eqb n v.root) (leaf v n || leb 2 (ones (v.occupied n))) (leb 3 (ones (v.occupied n)))

-- the property
pub record WellFilled (v : View) (n : ℕ) : Type 0 where
  pub root : n ≡ v.root → (v.level n ≡ 0) ⊎ (2 ≤ ones (v.occupied n))
  pub other : (n ≡ v.root → ⊥) → 3 ≤ ones (v.occupied n)
