-- Little-endian numbers, one law over the width: how large a number is, how it falls apart into its first byte and
-- the rest or into two numbers, and where it is read. Assumes nothing.
use mathlib.Core.Path.{◌≡◌, refl}
use mathlib.Core.List.{List}
use Prim.Native.Nat.{ℕ, zero, suc, ◌+◌, ◌*◌, ◌/◌, ◌%◌, ◌^◌, ◌<◌}
use native.Mathlib.Nat.{mul_assoc}
use native.Mathlib.Omega.{arith, pow_step}
use lib.ListN.{drop, get_or}
use lib.Seq.{get_or-drop}
use mir.Syntax.{w8}
use mir.Val.{Fits}
use Rattle.words.specs.Words.{le_at}

pub le_byte : (m : List ℕ) (at : ℕ) → le_at 1 m at ≡ get_or m at 0
unfolding le_at
le_byte m at = omega arith

module _ (m : List ℕ) (b : (i : ℕ) → Fits w8 (get_or m i 0)) where
  pub le_small : (k at : ℕ) → le_at k m at < 256 ^ k
  unfolding le_at
  le_small zero at = omega arith
  le_small (suc k) at = omega (arith, (b at).fits, le_small k (at + 1), pow_step 256 k)

  pub le_first : (k at : ℕ) → le_at (suc k) m at % 256 ≡ le_at 1 m at
  unfolding le_at
  le_first k at = omega (arith, (b at).fits)

  pub le_rest : (k at : ℕ) → le_at (suc k) m at / 256 ≡ le_at k m (at + 1)
  unfolding le_at
  le_rest k at = omega (arith, (b at).fits)

-- a word of k + 1 bytes, as it was read: its first byte, and whether the rest is zero
module _ (m : List ℕ) (b : (i : ℕ) → Fits w8 (get_or m i 0)) (k at : ℕ) {w : ℕ} (e : w ≡ le_at (suc k) m at) where
  pub word_first : w % 256 ≡ le_at 1 m at
  word_first = rw e (le_first m b k at)

  pub word_rest : w / 256 ≡ le_at k m (at + 1)
  word_rest = rw e (le_rest m b k at)

-- two numbers side by side are one
pub le_joined : (m : List ℕ) (j k at : ℕ) → le_at (j + k) m at ≡ le_at j m at + 256 ^ j * le_at k m (at + j)
unfolding le_at
le_joined m zero k at =
    let e : 0 + k ≡ k = omega arith in
    let f : at + 0 ≡ at = omega arith in
    rw (e, f) (omega arith)
le_joined m (suc j) k at =
    let e : suc j + k ≡ suc (j + k) = omega arith in
    let f : at + suc j ≡ at + 1 + j = omega arith in
    let rest = le_at k m (at + 1 + j) in
    let p : 256 ^ suc j * rest ≡ 256 * (256 ^ j * rest) = rw (pow_step 256 j) (mul_assoc 256 (256 ^ j) rest) in
    rw (e, f) (omega (arith, le_joined m j k (at + 1), p))

-- a number hangs on its own bytes only
pub le_same : (k : ℕ) (l m : List ℕ) (at to : ℕ)
    → ((i : ℕ) → i < k → get_or l (at + i) 0 ≡ get_or m (to + i) 0) → le_at k l at ≡ le_at k m to
unfolding le_at
le_same zero l m at to h = refl
le_same (suc k) l m at to h =
    let p : at + 0 ≡ at = omega arith in
    let q : to + 0 ≡ to = omega arith in
    let first : get_or l at 0 ≡ get_or m to 0 = rw (p, q) at (h 0 (omega arith)) in
    let next : (i : ℕ) → i < k → get_or l (at + 1 + i) 0 ≡ get_or m (to + 1 + i) 0 =
    λ i less.
    let r : at + suc i ≡ at + 1 + i = omega arith in
    let s : to + suc i ≡ to + 1 + i = omega arith in
    rw (r, s) at (h (suc i) (omega arith)) in
    rw (first, le_same k l m (at + 1) (to + 1) next)

-- what is dropped moves the places
pub le_drop : (k a at : ℕ) (m : List ℕ) → le_at k (drop a m) at ≡ le_at k m (a + at)
le_drop k a at m =
    le_same k (drop a m) m at (a + at) (λ i less. let e : a + (at + i) ≡ a + at + i = omega arith in rw (get_or-drop, e))
