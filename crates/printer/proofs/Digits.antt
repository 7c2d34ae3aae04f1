-- The decimal that a buffer of digits holds is the number's. Assumes nothing.
use mathlib.Core.Path.{◌≡◌}
use Prim.Native.Nat.{ℕ, suc, ◌^◌, ◌<◌}
use native.Mathlib.Omega.{arith}
use Rattle.std.proofs.lemmas.Fmt.{AppendsLastDigit, decimal_from_appends, length-decimal-le_succ}
use Rattle.std.specs.Fmt as fmt
use Rattle.decimal.specs.Decimal.{decimal_by, decimal}
use Rattle.std.proofs.Common.{rules}

steps : AppendsLastDigit decimal_by
unfolding decimal_by
steps = search rules

pub digits_printed : (n : ℕ) → n < 2 ^ 64 → decimal n ≡ fmt.decimal n
unfolding decimal
digits_printed n h = decimal_from_appends decimal_by steps (suc n) n h (omega (arith, length-decimal-le_succ n h))
