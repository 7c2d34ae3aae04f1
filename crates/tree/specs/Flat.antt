-- The bays of a map, as the numbers of their slots. Flat: a bay is a filled slot of a leaf, wherever the leaf stands.
use Rattle.std.specs.Prelude.{cond, List, [], ◌∷◌, ℕ, ◌*◌}
use Rattle.floor.specs.View.{View, bay}
use Rattle.order.specs.Order.{gather}

-- slot j, if it is a bay
abbrev pub bay_in : View → ℕ → List ℕ
bay_in v j = cond (bay v j) (j ∷ []) []

-- every bay of a map, in the order of nodes and slots
unfoldable pub all_bays : View → List ℕ
all_bays v = gather (bay_in v) (8 * v.count)
