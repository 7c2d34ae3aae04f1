-- The root that is printed is the plain distance; document 01's example, and a refusal, byte by byte. Assumes nothing.
use mathlib.Core.Path.{◌≡◌, refl, ap}
use mathlib.Core.Bool.{Bool, true, false, cond}
use mathlib.Core.List.{[], ◌∷◌}
use Prim.Native.Nat.{ℕ, zero, suc, ◌+◌, ◌*◌, ◌<◌}
use native.Mathlib.Numerals.{add-one}
use native.Mathlib.Omega.{arith}
use lib.Dec.{leb}
use borrow.Author.Tests.{leb-true, leb-false}
use Rattle.decimal.specs.Decimal.{decimal_by, decimal}
use Rattle.measure.specs.declared.Mm.{Mm}
use Rattle.measure.specs.Root.{RootOf}
use Rattle.measure.proofs.Theorems.{root_unique}
use Rattle.record.specs.declared.Record.{Record}
use Rattle.printer.specs.Printed.{root_below, root_of, record_line, record_lines, printed}

root_below_lem : (n d : ℕ) → d < (n + 1) * (n + 1) → RootOf d (root_below n d)
unfolding root_below
root_below_lem zero d h = record { low = omega arith; high = h }
root_below_lem (suc n) d h = by (leb (suc n * suc n) d) refl (root_below_lem n d)
  where
    by : (t : Bool) → leb (suc n * suc n) d ≡ t → (d < (n + 1) * (n + 1) → RootOf d (root_below n d)) → RootOf d (cond t (suc n) (root_below n d))
    by true e below = record { low = leb-true (suc n * suc n) d e; high = h }
    by false e below = below (rw (add-one n) (leb-false (suc n * suc n) d e))

pub root_is : (d : ℕ) → RootOf d (root_of d)
unfolding root_of
root_is d = root_below_lem d d (omega arith)

-- what the plain distance is found to be is what is printed
pub root_printed : (d : ℕ) (r : Mm) → RootOf d r.0 → r.0 ≡ root_of d
root_printed d r h = ap (λ (m : Mm). m.0) (root_unique d r (record { 0 = root_of d }) h (root_is d))

abbrev pub four_away : ℕ → Record
four_away number = record { bay = number; zone = 3; far = record { 0 = 16 } }

pub example_printed : printed 0 (four_away 4 ∷ four_away 7 ∷ []) ≡
    97 ∷ 110 ∷ 115 ∷ 119 ∷ 101 ∷ 114 ∷ 61 ∷ 48 ∷ 10 ∷
    102 ∷ 111 ∷ 117 ∷ 110 ∷ 100 ∷ 61 ∷ 50 ∷ 10 ∷
    98 ∷ 97 ∷ 121 ∷ 61 ∷ 52 ∷ 32 ∷ 122 ∷ 111 ∷ 110 ∷ 101 ∷ 61 ∷ 51 ∷ 32 ∷ 100 ∷ 115 ∷ 113 ∷ 61 ∷ 49 ∷ 54 ∷ 32 ∷ 109 ∷ 109 ∷ 61 ∷ 52 ∷ 10 ∷
    98 ∷ 97 ∷ 121 ∷ 61 ∷ 55 ∷ 32 ∷ 122 ∷ 111 ∷ 110 ∷ 101 ∷ 61 ∷ 51 ∷ 32 ∷ 100 ∷ 115 ∷ 113 ∷ 61 ∷ 49 ∷ 54 ∷ 32 ∷ 109 ∷ 109 ∷ 61 ∷ 52 ∷ 10 ∷ []
unfolding printed record_lines record_line root_of root_below decimal decimal_by
example_printed = refl

-- a refusal: `answer=2`, `found=0`
pub refusal_printed : printed 2 [] ≡
    97 ∷ 110 ∷ 115 ∷ 119 ∷ 101 ∷ 114 ∷ 61 ∷ 50 ∷ 10 ∷
    102 ∷ 111 ∷ 117 ∷ 110 ∷ 100 ∷ 61 ∷ 48 ∷ 10 ∷ []
unfolding printed record_lines decimal decimal_by
refusal_printed = refl
