-- The order of bays: by how far they are, equal ones by smaller bay number. Document 01, 'The question and its reply'.
-- A mark is a place in this order; so is where a bay stands, with its own distance and number.
use Rattle.std.specs.Prelude.{Bool, ℕ}
use Rattle.order.specs.Ranked.{lower, ranked}
use Rattle.question.specs.declared.mark.Mark.{Mark}

abbrev pub far_of : Mark → ℕ
far_of m = m.far.0

abbrev pub bay_of : Mark → ℕ
bay_of m = m.bay

unfoldable pub before : Mark → Mark → Bool
before a b = ranked far_of (lower bay_of) a b

-- the start: no bay has the number 0, so that all come after it
abbrev pub start : Mark
start = record { far = record { 0 = 0 }; bay = 0 }
