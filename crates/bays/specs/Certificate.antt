-- A certificate that no bay number stands twice: a way to find a slot from a bay number alone, which finds every bay
-- again. How it was come by does not matter. An entry is a slot's number and one more, or 0.
use Rattle.std.specs.Prelude.{Bool, true, cond, ◌&&◌, List, [], ◌∷◌, ℕ, zero, suc, ◌+◌, ◌*◌, ◌-◌, ◌/◌, ◌%◌, eqb, leb, ltb, get_or}
use Rattle.std.specs.List.Sorted.{IsNonDecreasingBy}
use Rattle.numbers.specs.Below.{all_below}
use Rattle.floor.specs.View.{View, bay}
use Rattle.bays.specs.declared.sorted.Key.{Key}

-- the number that the slot of an entry refers to; 0 where the entry names no slot of the map
unfoldable pub entry_ref : View → ℕ → ℕ
entry_ref v e = cond (leb 1 e && leb e (8 * v.count)) (v.ref (e - 1)) 0

-- where to look for a bay number first: the top twelve bits of a product
unfoldable pub home_of : ℕ → ℕ
home_of b = b * 2654435769 % 4294967296 / 1048576

-- the first of so many entries from a place on, round the table's end, that is 0 or refers to b; or 0
unfoldable pub walk_of : View → List ℕ → ℕ → ℕ → ℕ → ℕ
walk_of v table b zero at = 0
walk_of v table b (suc left) at =
    cond (eqb (get_or table at 0) 0) 0
    (cond (eqb (entry_ref v (get_or table at 0)) b) (get_or table at 0) (walk_of v table b left ((at + 1) % 4096)))

-- no key has a lower number than one before it
abbrev pub InOrder : List Key → Type 0
InOrder keys = IsNonDecreasingBy (λ k. k.number) keys

-- the entry of the first key whose number is b or more; or 0
unfoldable pub entry_from : List Key → ℕ → ℕ
entry_from [] b = 0
entry_from (k ∷ ks) b = cond (ltb k.number b) (entry_from ks b) k.entry

-- slot j, where that is a bay, is found from its number
unfoldable pub found_at : (ℕ → ℕ) → View → ℕ → Bool
found_at find v j = cond (bay v j) (eqb (find (v.ref j)) (j + 1)) true

unfoldable pub found_all : (ℕ → ℕ) → View → Bool
found_all find v = all_below (λ node. all_below (λ i. found_at find v (8 * node + i)) 8) v.count
