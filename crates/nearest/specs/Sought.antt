-- How far each slot is from the point of the question that the code's search answers. For the clauses of the code.
use Rattle.std.specs.Prelude.{ℕ}
use Rattle.floor.specs.Seen.{seen}
use Rattle.nearest.specs.declared.Seek.{Seek}
use Rattle.nearest.specs.Shown.{distance_to}

abbrev pub away : Seek → ℕ → ℕ
away s = distance_to (seen s.map) s.q.from
