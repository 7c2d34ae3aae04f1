-- What a search rests on: a map that keeps the rules, and a point in range.
use Rattle.std.specs.Prelude.{◌≡◌, true}
use Rattle.measure.specs.declared.Point.{Point}
use Rattle.measure.specs.Answer.{point_ok}
use Rattle.floor.specs.View.{View}
use Rattle.rules.specs.Verdicts.{Keeps}

pub record Ground (v : View) (p : Point) : Type 0 where
  pub keeps : Keeps v
  pub point : point_ok p ≡ true
