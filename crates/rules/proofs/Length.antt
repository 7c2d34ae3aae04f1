-- No accepted map has more than 50,184 bytes, so that reading one more settles the verdict. Assumes nothing.
use mathlib.Core.Path.{◌≡◌, refl, sym, ap, ◌∙◌}
use mathlib.Core.Bool.{Bool, true, false}
use mathlib.Core.List.{List}
use Prim.Native.Nat.{ℕ, ◌<◌, ◌≤◌}
use native.Mathlib.Omega.{arith}
use lib.ListN.{length, take}
use lib.Seq.{take_all, length-take-le}
use lib.Dec.{leb}
use borrow.Author.Tests.{leb-true, leb-false}
use Rattle.floor.specs.View.{view_of}
use Rattle.std.specs.Prelude.{Err}
use Rattle.rules.specs.declared.Fault.TheVariants.{BadHeader}
use Rattle.rules.specs.Header.{header_ok, HeaderRight}
use Rattle.rules.specs.Verdicts.{verdict_of}
use Rattle.rules.proofs.Exact.{header_exactly}

header_short : (m : List ℕ) → HeaderRight (view_of m) → length m ≤ 50184
unfolding view_of
header_short m h = omega (arith, h.size, h.few)

pub long_broken : (m : List ℕ) → 50184 < length m → verdict_of m ≡ Err BadHeader
unfolding verdict_of
long_broken m l = by (header_ok (view_of m)) refl
  where
    by : (t : Bool) → header_ok (view_of m) ≡ t → verdict_of m ≡ Err BadHeader
    by true e = absurd (omega (arith, header_short m ((header_exactly (view_of m)).sound e)))
    by false e = rw e

-- a program that reads more than 50,184 bytes of a map has read enough: what comes after them does not show
pub map_rest_unread : (m : List ℕ) (n : ℕ) → 50184 < n → verdict_of (take n m) ≡ verdict_of m
map_rest_unread m n h = by (leb (length m) n) refl
  where
    by : (t : Bool) → leb (length m) n ≡ t → verdict_of (take n m) ≡ verdict_of m
    by true e = ap verdict_of (take_all n m (leb-true (length m) n e))
    by false e =
        let more : n < length m = leb-false (length m) n e in
        let full : length (take n m) ≡ n = length-take-le n m (omega arith) in
        long_broken (take n m) (omega arith) ∙ sym (long_broken m (omega arith))
