-- How far each slot of a node is: what a search looks at before it goes down.
use Rattle.std.specs.Prelude.{◌≡◌, Bool, cond, ◌&&◌, List, ℕ, ◌+◌, ◌*◌, ◌<◌, leb, ltb, length, get_or}
use Rattle.measure.specs.declared.HowFar.{HowFar}
use Rattle.floor.specs.View.{View, filled}

abbrev pub none : HowFar
none = record { 0 = 0 }

-- farther than any slot: what stands for one that is empty
abbrev pub beyond : ℕ
beyond = 18446744073709551615

unfoldable pub gap_of : View → (ℕ → ℕ) → ℕ → ℕ
gap_of v distance j = cond (filled v j) (distance j) beyond

-- ds has the distances of a node's slots
pub record Reach (v : View) (distance : ℕ → ℕ) (node : ℕ) (ds : List HowFar) : Type 0 where
  pub long : length ds ≡ 8
  pub is : (i : ℕ) → i < 8 → (get_or ds i none).0 ≡ gap_of v distance (8 * node + i)

-- whether a slot at the distance d is gone into: it is there, and not strictly farther than the kth bay
abbrev pub opened : ℕ → ℕ → Bool
opened d worst = ltb d beyond && leb d worst
