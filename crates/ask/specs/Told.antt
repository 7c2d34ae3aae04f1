-- What is told of a bay: a slot becomes a record here, and nowhere else.
use Rattle.std.specs.Prelude.{List, map, ℕ}
use Rattle.floor.specs.View.{View, view_of}
use Rattle.record.specs.declared.Record.{Record}
use Rattle.question.specs.declared.mark.Mark.{Mark}
use Rattle.question.specs.declared.Question.{Question}
use Rattle.nearest.specs.Shown.{distance_to, page}
use Rattle.nearest.specs.declared.best.Best.{Best}
use Rattle.nearest.specs.Best.{slot_in, far_in, keys_of}

-- of the bay in slot j, the distance of each slot given: its number, its zone, and how far it is
abbrev pub record_at : View → (ℕ → ℕ) → ℕ → Record
record_at v distance j = record { bay = v.ref j; zone = v.zone j; far = record { 0 = distance j } }

-- the same by the bay's key
abbrev pub record_of : View → ℕ → Record
record_of v key = record_at v (λ j. far_in key) (slot_in key)

-- what is told of the bays of a best list
abbrev pub told_of : View → Best → List Record
told_of v b = map (record_of v) (keys_of b)

-- where a record stands in the order of bays
abbrev pub mark_of : Record → Mark
mark_of r = record { far = r.far; bay = r.bay }

-- the records that the question asks for, of the map's bays as they stand
abbrev pub page_of : List ℕ → Question → List Record
page_of m q =
    map (record_at (view_of m) (distance_to (view_of m) q.from))
    (page (view_of m) (distance_to (view_of m) q.from) q.badge.0 q.mark q.k)
