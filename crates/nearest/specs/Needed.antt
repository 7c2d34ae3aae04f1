-- What the search needs, by name. For the proofs of the code.
use Rattle.std.specs.Prelude.{◌≡◌, true, List, ℕ, suc, ◌<◌, ◌≤◌, length, take}
use Rattle.floor.specs.View.{View}
use Rattle.measure.specs.Answer.{point_ok}
use Rattle.rules.specs.Verdicts.{number_of, verdict_of}
use Rattle.order.specs.Order.{place, Sorted}
use Rattle.question.specs.declared.Question.{Question}
use Rattle.nearest.specs.Ground.{Ground}
use Rattle.nearest.specs.Best.{sooner, Slots}

-- a question on a map
pub record Searchable (v : View) (q : Question) : Type 0 where
  pub ground : Ground v q.from
  pub k_low : 1 ≤ q.k
  pub k_high : q.k ≤ 100

-- its ground, of a map's bytes, in equations: what a field that holds it may say
pub record Checked (map : List ℕ) (q : Question) : Type 0 where
  pub accepted : number_of (verdict_of map) ≡ 0
  pub point : point_ok q.from ≡ true

-- keys of which the first m are in order; and a new one put among these
pub record KeyToPlace (v : View) (keys : List ℕ) (m : ℕ) : Type 0 where
  pub few : m < 100
  pub long : length keys ≡ 100
  pub slots : Slots v keys
  pub sorted : Sorted (sooner v) (take m keys)

pub record KeyPlaced (v : View) (keys after : List ℕ) (m new : ℕ) : Type 0 where
  pub long : length after ≡ 100
  pub slots : Slots v after
  pub placed : take (suc m) after ≡ place (sooner v) new (take m keys)
