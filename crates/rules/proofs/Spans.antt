-- Comparisons of the code, as the definitions have them. Assumes nothing.
use mathlib.Core.Path.{◌≡◌, refl, sym}
use mathlib.Core.Bool.{Bool, true, false, not, cond}
use Prim.Native.Nat.{ℕ}
use lib.IntN.{ℤ, pos, negsuc}
use lib.Signed.{le_z, lt_z}
use lib.Dec.{leb, ltb}
use borrow.Author.Tests.{lt-ltb, le-ltb, leb-true, leb-false}
use Rattle.std.specs.Int.{int_min, int_max}
use Rattle.std.specs.Ordering.{int_eq}
use Rattle.std.proofs.lemmas.Bool.Decides.{Decides-int_eq}
use Rattle.numbers.proofs.Order.{le_total, le_both}
use Rattle.rules.specs.Boxes.{Side, outer, Low, High}
use Rattle.rules.specs.Spans.{same_z}
use Rattle.rules.proofs.Exact.{same_z_is}

below_not : (a b : ℕ) → ltb a b ≡ not (leb b a)
below_not a b = by (leb b a) refl
  where
    by : (t : Bool) → leb b a ≡ t → ltb a b ≡ not t
    by true e = le-ltb a b (leb-true b a e)
    by false e = lt-ltb a b (leb-false b a e)

less_not : (a b : ℤ) → lt_z a b ≡ not (le_z b a)
less_not (pos a) (pos b) = below_not a b
less_not (pos a) (negsuc b) = refl
less_not (negsuc a) (pos b) = refl
less_not (negsuc a) (negsuc b) = below_not b a

pub least_low : (a b : ℤ) → int_min a b ≡ outer Low a b
unfolding outer
least_low a b = rw (less_not b a) (by (le_z a b))
  where
    by : (t : Bool) → cond (not t) b a ≡ cond t a b
    by true = refl
    by false = refl

pub greatest_high : (a b : ℤ) → int_max a b ≡ outer High a b
unfolding outer
greatest_high a b = rw (less_not b a) (by (le_z a b) (le_z b a) refl refl)
  where
    by : (s t : Bool) → le_z a b ≡ s → le_z b a ≡ t → cond (not s) a b ≡ cond t a b
    by true true d e = sym (le_both a b d e)
    by true false d e = refl
    by false true d e = refl
    by false false d e = absurd (let h = le_total a b d in cc)

-- round a span and itself it is that span: so the check follows a comparison that is made of `span_around`
pub outer_same : (side : Side) (a : ℤ) → outer side a a ≡ a
unfolding outer
outer_same Low a = by (le_z a a)
  where
    by : (t : Bool) → cond t a a ≡ a
    by true = refl
    by false = refl
outer_same High a = by (le_z a a)
  where
    by : (t : Bool) → cond t a a ≡ a
    by true = refl
    by false = refl

pub same_eq : (a b : ℤ) → int_eq a b ≡ same_z a b
same_eq a b =
    let d = Decides-int_eq a b in
    let s = same_z_is a b in
    by (int_eq a b) (same_z a b) (λ e. s.complete (d.0 e)) (λ e. d.1 (s.sound e))
  where
    by : (s t : Bool) → (s ≡ true → t ≡ true) → (t ≡ true → s ≡ true) → s ≡ t
    by true t f g = sym (f refl)
    by false true f g = g refl
    by false false f g = refl
