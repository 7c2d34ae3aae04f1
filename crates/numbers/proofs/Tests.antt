-- Tests and choices: what an `&&` or a `cond` of Bools says. Assumes nothing.
use mathlib.Core.Path.{◌≡◌, refl}
use mathlib.Core.Bool.{Bool, true, false, cond, ◌&&◌, false≢true}

-- a test that was passed leaves it to the other
pub passed : (a b : Bool) {r : Bool} → a ≡ true → r ≡ b → r ≡ (a && b)
passed true b e h = h
passed false b e h = absurd (false≢true e)

-- what holds of both of two values holds of the one chosen
pub chosen : {A : Type 0} (P : A → Type 0) (t : Bool) {x y : A} → P x → P y → P (cond t x y)
chosen P true h k = h
chosen P false h k = k
