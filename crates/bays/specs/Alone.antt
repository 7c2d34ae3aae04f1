-- Rules that forbid a relation between two slots: the test and the property, for any relation.
use Rattle.std.specs.Prelude.{◌≡◌, Bool, false, not, ℕ, ◌+◌, ◌*◌, ◌<◌}
use Rattle.numbers.specs.Below.{all_below}
use Rattle.floor.specs.View.{View}

-- slot j is related to no slot of the whole map
abbrev pub alone_by : (ℕ → ℕ → Bool) → View → ℕ → Bool
alone_by related v j = all_below (λ n. all_below (λ i. not (related j (8 * n + i))) 8) v.count

-- no slot of node n is related to any
abbrev pub apart_by : (ℕ → ℕ → Bool) → View → ℕ → Bool
apart_by related v n = all_below (λ i. alone_by related v (8 * n + i)) 8

-- the property: every slot of node n stands to every slot as P says
abbrev pub ApartBy : (ℕ → ℕ → Type 0) → View → ℕ → Type 0
ApartBy P v n = (i k : ℕ) → i < 8 → k < 8 * v.count → P (8 * n + i) k

-- no two slots of the whole map are related
abbrev pub NoneBy : (ℕ → ℕ → Bool) → View → Type 0
NoneBy related v = (j k : ℕ) → j < 8 * v.count → k < 8 * v.count → related j k ≡ false
