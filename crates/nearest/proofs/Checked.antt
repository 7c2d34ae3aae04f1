-- A question on a map that is checked: in equations, and as a search rests on it. Assumes nothing.
use Prim.Native.Nat.{ℕ}
use native.Mathlib.Omega.{arith}
use mathlib.Core.Path.{◌≡◌, refl, ap}
use mathlib.Core.List.{List}
use Rattle.std.specs.Prelude.{Result, Ok, Err}
use Rattle.floor.specs.View.{view_of}
use Rattle.rules.specs.declared.Fault.{Fault}
use Rattle.rules.specs.declared.Fault.TheVariants.{BadHeader, Broken}
use Rattle.rules.specs.declared.Rule.TheVariants.{Form, Fill, Links, Boxes, Bays}
use Rattle.rules.specs.Verdicts.{number_of, verdict_of, Keeps}
use Rattle.rules.proofs.Verdicts.{accepted_sound, accepted_complete}
use Rattle.question.specs.declared.Question.{Question}
use Rattle.nearest.specs.Ground.{Ground}
use Rattle.nearest.specs.Needed.{Searchable, Checked}

-- number 0 is the verdict of no fault
pub number_zero : (r : Result (Unit {0}) Fault) → number_of r ≡ 0 → r ≡ Ok tt
number_zero (Ok u) e = refl
number_zero (Err BadHeader) e = absurd (omega arith)
number_zero (Err (Broken Form n)) e = absurd (omega arith)
number_zero (Err (Broken Fill n)) e = absurd (omega arith)
number_zero (Err (Broken Links n)) e = absurd (omega arith)
number_zero (Err (Broken Boxes n)) e = absurd (omega arith)
number_zero (Err (Broken Bays n)) e = absurd (omega arith)

pub number_keeps : (map : List ℕ) → number_of (verdict_of map) ≡ 0 → Keeps (view_of map)
number_keeps map e = accepted_sound map (number_zero (verdict_of map) e)

pub keeps_number : (map : List ℕ) → Keeps (view_of map) → number_of (verdict_of map) ≡ 0
keeps_number map k = ap number_of (accepted_complete map k)

pub checked : (map : List ℕ) (q : Question) → Searchable (view_of map) q → Checked map q
checked map q s = record { accepted = keeps_number map s.ground.keeps; point = s.ground.point }

pub grounded : {map : List ℕ} {q : Question} → Checked map q → Ground (view_of map) q.from
grounded {map = map} c = record { keeps = number_keeps map c.accepted; point = c.point }
