-- The bytes of document 01's two maps: the empty leaf root of its figure 8, and its example map. The parts that they are
-- made of are `floor`'s, with numbers in place of records.
use Rattle.std.specs.Prelude.{true, List, [], ◌++◌, ℕ, pos}
use Rattle.measure.specs.declared.Span.{Span}
use Rattle.floor.specs.Written.{slot_bytes, slots_bytes, head_bytes, header_bytes}

-- N, the root and H
abbrev pub header : ℕ → ℕ → ℕ → List ℕ
header = header_bytes

-- level and occupancy of a node; its eight slots follow
abbrev pub node : ℕ → ℕ → List ℕ
node = head_bytes

-- from low to high on an axis
abbrev pub from : ℕ → ℕ → Span
from low high = record { low = pos low; high = pos high }

-- a filled slot of a leaf: x, y, its bay and its zone
abbrev pub bay_slot : Span → Span → ℕ → ℕ → List ℕ
bay_slot x y bay zone = slot_bytes (record { bounds = record { x = x; y = y }; reference = bay; zone = zone; clear = true })

-- n slots that are not filled
abbrev pub blanks : ℕ → List ℕ
blanks = slots_bytes []

-- a root that is a leaf with no bay
abbrev pub empty_map : List ℕ
empty_map = header 1 0 1 ++ node 0 0 ++ blanks 8

-- a root that is a leaf with three bays, in its first three slots
abbrev pub example_map : List ℕ
example_map =
    header 1 0 1
    ++ node 0 7
    ++ bay_slot (from 10 20) (from 0 5) 7 3
    ++ bay_slot (from 0 2) (from 0 2) 4 3
    ++ bay_slot (from 5 6) (from 5 6) 9 5
    ++ blanks 5
