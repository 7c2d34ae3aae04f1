-- Maps that meet what demand 3 asks: document 01's example map, a taller one that shows badge 8 the same bays, in another
-- order and among other hidden ones, and one that does not.
use Rattle.std.specs.Prelude.{List, ◌++◌, ℕ, pos}
use Rattle.measure.specs.declared.Point.{Point}
use Rattle.measure.specs.declared.Span.{Span}
use Rattle.tree.specs.Examples.{header, node, from, bay_slot, blanks}
use Rattle.question.specs.declared.Question.{Question}

-- a slot above the leaves: x, y, and the node that it names
abbrev pub link_to : Span → Span → ℕ → List ℕ
link_to x y n = bay_slot x y n 0

-- height 2: bays 4 and 7 of zone 3 lie in two leaves, with four others of zone 5
abbrev pub tall_map : List ℕ
tall_map =
    header 3 0 2
    ++ node 1 3
    ++ link_to (from 0 5) (from 0 6) 1
    ++ link_to (from 10 31) (from 0 9) 2
    ++ blanks 6
    ++ node 0 7
    ++ bay_slot (from 0 2) (from 0 2) 4 3
    ++ bay_slot (from 1 1) (from 3 4) 22 5
    ++ bay_slot (from 5 5) (from 5 6) 23 5
    ++ blanks 5
    ++ node 0 7
    ++ bay_slot (from 30 31) (from 1 2) 20 5
    ++ bay_slot (from 10 20) (from 0 5) 7 3
    ++ bay_slot (from 12 13) (from 8 9) 21 5
    ++ blanks 5

-- the example map with bay 4 moved to a zone that badge 8 does not see
abbrev pub moved_map : List ℕ
moved_map =
    header 1 0 1
    ++ node 0 7
    ++ bay_slot (from 10 20) (from 0 5) 7 3
    ++ bay_slot (from 0 2) (from 0 2) 4 5
    ++ bay_slot (from 5 6) (from 5 6) 9 5
    ++ blanks 5

-- document 01's question, and a page of two
abbrev pub lamp : Point
lamp = record { x = pos 6; y = pos 2 }

abbrev pub question : Question
question =
    record { from = lamp; k = 2; badge = record { 0 = 8 }; mark = record { far = record { 0 = 0 }; bay = 0 } }
