-- What each refusal is given for, in document 01's words, and the table that says it is given exactly then.
use Rattle.std.specs.Prelude.{◌≡◌, false, ◌⊎◌, ℕ, ◌*◌, ◌<◌, ◌≤◌, eqb, ℤ}
use mathlib.Core.List.{List, [], ◌∷◌, ◌++◌, Memᴰ}
use Rattle.std.specs.Int.Count.{ones}
use Rattle.numbers.specs.Exactly.{Exactly}
use Rattle.numbers.specs.Tried.{Row, row, Tried}
use Rattle.measure.specs.Axis.{in_range}
use Rattle.measure.specs.Answer.{coordinates}
use Rattle.floor.specs.View.{view_of}
use Rattle.rules.specs.Verdicts.{Keeps}
use Rattle.record.specs.Record.{record_size}
use Rattle.question.specs.declared.Question.{Question}
use Rattle.ask.specs.Reply.{refusal}

-- a coordinate of the point is out of range
abbrev pub BadPoint : Question → Type 0
BadPoint q = (z : ℤ) × Memᴰ z (coordinates q.from) × (in_range z ≡ false)

-- k is outside 1..100
abbrev pub BadCount : Question → Type 0
BadCount q = (q.k < 1) ⊎ (100 < q.k)

-- a badge with 0 zones, or with 9 to 31
abbrev pub BadBadge : Question → Type 0
BadBadge q = (ones q.badge.0 ≡ 0) ⊎ ((9 ≤ ones q.badge.0) × (ones q.badge.0 ≤ 31))

-- a room shorter than k records
abbrev pub BadRoom : Question → ℕ → Type 0
BadRoom q size = size < record_size * q.k

-- a map that breaks a rule
abbrev pub BadMap : List ℕ → Type 0
BadMap map = Keeps (view_of map) → ⊥

-- document 01's table: the rows that speak of the question alone, and all
abbrev pub own_rows : Question → ℕ → List Row
own_rows q size = row 1 (BadPoint q) ∷ row 2 (BadCount q) ∷ row 3 (BadBadge q) ∷ row 4 (BadRoom q size) ∷ []

abbrev pub rows : List ℕ → Question → ℕ → List Row
rows map q size = own_rows q size ++ (row 5 (BadMap map) ∷ [])

pub record Table (map : List ℕ) (q : Question) (size : ℕ) : Type 0 where
  -- each number is given exactly when the table says, tried in its order; 0 when none of its rows holds
  pub given : (n : ℕ) → Exactly (eqb (refusal map q size) n) (Tried (rows map q size) n)
  -- so 0 exactly when none of the question's own rows holds, and the map keeps the rules
  pub answered : Exactly (eqb (refusal map q size) 0) (Tried (own_rows q size) 0 × Keeps (view_of map))
