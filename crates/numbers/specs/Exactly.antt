-- A test that holds exactly when a property does.
use Rattle.std.specs.Prelude.{◌≡◌, Bool, true}

pub record Exactly (t : Bool) (P : Type 0) : Type 0 where
  pub sound : t ≡ true → P
  pub complete : P → t ≡ true
