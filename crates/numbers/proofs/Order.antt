-- The order of integers: its test `le_z` is reflexive, transitive, antisymmetric and total; `◌≤ℤ◌` from tests, and
-- through a third. Assumes nothing.
use mathlib.Core.Path.{◌≡◌, refl, ap}
use mathlib.Core.Bool.{true, false, true≢false, false≢true}
use native.Mathlib.Omega.{arith}
use borrow.Author.Tests.{leb-true, leb-false, le-leb}
use lib.Dec.{T}
use lib.IntN.{ℤ, pos, negsuc}
use lib.Signed.{lt_z, le_z, ◌≤ℤ◌, lt_z_no}

pub le_self : (a : ℤ) → le_z a a ≡ true
le_self (pos a) = le-leb a a (omega arith)
le_self (negsuc a) = le-leb a a (omega arith)

pub le_through : (a b c : ℤ) → le_z a b ≡ true → le_z b c ≡ true → le_z a c ≡ true
le_through (pos a) (pos b) (pos c) h k = le-leb a c (omega (arith, leb-true a b h, leb-true b c k))
le_through (pos a) (pos b) (negsuc c) h k = k
le_through (pos a) (negsuc b) c h k = absurd (false≢true h)
le_through (negsuc a) b (pos c) h k = refl
le_through (negsuc a) (pos b) (negsuc c) h k = absurd (false≢true k)
le_through (negsuc a) (negsuc b) (negsuc c) h k = le-leb c a (omega (arith, leb-true b a h, leb-true c b k))

pub le_both : (a b : ℤ) → le_z a b ≡ true → le_z b a ≡ true → a ≡ b
le_both (pos a) (pos b) h k = ap pos (let e : a ≡ b = omega (arith, leb-true a b h, leb-true b a k) in e)
le_both (pos a) (negsuc b) h k = absurd (false≢true h)
le_both (negsuc a) (pos b) h k = absurd (false≢true k)
le_both (negsuc a) (negsuc b) h k = ap negsuc (let e : a ≡ b = omega (arith, leb-true b a h, leb-true a b k) in e)

pub le_total : (a b : ℤ) → le_z a b ≡ false → le_z b a ≡ true
le_total (pos a) (pos b) e = le-leb b a (omega (arith, leb-false a b e))
le_total (pos a) (negsuc b) e = refl
le_total (negsuc a) (pos b) e = absurd (true≢false e)
le_total (negsuc a) (negsuc b) e = le-leb a b (omega (arith, leb-false b a e))

-- ---- as a relation, whose numbers can be inferred

pub test_le : {a b : ℤ} → le_z a b ≡ true → a ≤ℤ b
test_le e = record { le = rw e tt }

pub test_nlt : {a b : ℤ} → lt_z a b ≡ false → b ≤ℤ a
test_nlt e = lt_z_no (rw e tt)

passed : {t : _} → T t → t ≡ true
passed {t = true} h = refl
passed {t = false} h = absurd h

pub ≤ℤ-trans : {a b c : ℤ} → a ≤ℤ b → b ≤ℤ c → a ≤ℤ c
≤ℤ-trans {a} {b} {c} h k = test_le (le_through a b c (passed h.le) (passed k.le))
