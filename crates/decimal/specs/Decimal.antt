-- The decimal of a number, as ASCII bytes.
use Rattle.std.specs.Prelude.{cond, List, [], ◌∷◌, ◌++◌, ℕ, zero, suc, ◌+◌, ◌/◌, ◌%◌, ltb}

-- n in decimal, if it has no more digits than are allowed
unfoldable pub decimal_by : ℕ → ℕ → List ℕ
decimal_by zero n = []
decimal_by (suc allowed) n = cond (ltb n 10) ((48 + n) ∷ []) (decimal_by allowed (n / 10) ++ ((48 + n % 10) ∷ []))

-- n in decimal: no leading zero, but for the number 0 itself
unfoldable pub decimal : ℕ → List ℕ
decimal n = decimal_by (suc n) n
