-- Rule 16: no bay number stands in two leaf slots.
use Rattle.std.specs.Prelude.{◌≡◌, Bool, true, not, ◌&&◌, ℕ, eqb}
use Rattle.floor.specs.View.{View, bay}
use Rattle.bays.specs.Alone.{alone_by, apart_by, ApartBy, NoneBy}

-- j and k are two slots with one bay number
unfoldable pub twin : View → ℕ → ℕ → Bool
twin v j k = bay v j && bay v k && (not (eqb j k) && eqb (v.ref j) (v.ref k))

-- there are no two such slots
abbrev pub NoTwins : View → Type 0
NoTwins v = NoneBy (twin v) v

-- slot j has no twin in the whole map
unfoldable pub lone : View → ℕ → Bool
lone v j = alone_by (twin v) v j

-- the rule, of node n
unfoldable pub bays_ok : View → ℕ → Bool
bays_ok v n = apart_by (twin v) v n

-- slots with one bay number are one slot
abbrev pub OneSlot : View → ℕ → ℕ → Type 0
OneSlot v j k = bay v j ≡ true → bay v k ≡ true → v.ref j ≡ v.ref k → j ≡ k

-- the property: whatever slot has the bay number of a slot of n is that slot
abbrev pub BaysApart : View → ℕ → Type 0
BaysApart v n = ApartBy (OneSlot v) v n
