-- Orders made of numbers: by one number, and by a number and then, where that is the same, by another order.
-- Assumes nothing.
use Rattle.std.specs.Prelude.{ℕ, Bool, cond, eqb, ltb}

abbrev pub lower : {A : Type 0} → (A → ℕ) → A → A → Bool
lower d a b = ltb (d a) (d b)

abbrev pub ranked : {A : Type 0} → (A → ℕ) → (A → A → Bool) → A → A → Bool
ranked d lt a b = cond (eqb (d a) (d b)) (lt a b) (ltb (d a) (d b))
