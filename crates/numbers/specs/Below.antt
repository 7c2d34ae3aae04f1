-- Tests over the numbers below a bound: all, how many pass, and the first that fails.
use Rattle.std.specs.Prelude.{Bool, true, cond, ◌&&◌, ℕ, zero, suc, ◌+◌, ltb}

-- every number below n passes
abbrev pub all_below : (ℕ → Bool) → ℕ → Bool
all_below p zero = true
all_below p (suc n) = all_below p n && p n

-- how many numbers below n pass
abbrev pub one : Bool → ℕ
one t = cond t 1 0

abbrev pub count_below : (ℕ → Bool) → ℕ → ℕ
count_below p zero = 0
count_below p (suc n) = count_below p n + one (p n)

-- the lowest number below n that fails, or n where none does
abbrev pub first_fail : (ℕ → Bool) → ℕ → ℕ
first_fail p zero = 0
first_fail p (suc n) = cond (ltb (first_fail p n) n) (first_fail p n) (cond (p n) (suc n) n)
