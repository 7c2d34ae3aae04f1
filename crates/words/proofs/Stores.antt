-- Stores one after the other, and the bytes of numbers, one law over the width: how long they are, that a number is
-- known by them, and how numbers side by side make one. Assumes nothing.
use mathlib.Core.Path.{◌≡◌, refl, sym, ap, ◌∙◌}
use mathlib.Core.List.{List, [], ◌∷◌, ◌++◌}
use Prim.Native.Nat.{ℕ, zero, suc, ◌+◌, ◌*◌, ◌/◌, ◌%◌, ◌^◌, ◌<◌, ◌≤◌}
use native.Mathlib.Nat.{add-zero, mul_assoc, mod-add-div, mod-lt, one-le-pow}
use native.Mathlib.Omega.{arith, pow_step}
use lib.ListN.{length, set, drop, replicate, length-append, length-drop}
use lib.Seq.{sets, sets-eq, take-append_seam, drop-append-add, drop-drop}
use Rattle.words.specs.Words.{le_bytes}

module _ {ℓ} {A : Type ℓ} where
  -- a run of stores, in two parts
  pub sets_append : (l : List A) (i : ℕ) (u v : List A) → sets l i (u ++ v) ≡ sets (sets l i u) (i + length u) v
  sets_append l i [] v = rw add-zero
  sets_append l i (a ∷ u) v =
      let e : i + suc (length u) ≡ suc i + length u = omega arith in
      rw e (sets_append (set l i a) (suc i) u v)

  -- the next run of stores goes on where the last one ends
  pub sets_next : (l : List A) (i d : ℕ) (u v : List A) → length u ≡ d → sets (sets l i u) (i + d) v ≡ sets l i (u ++ v)
  sets_next l i d u v e = rw (← e) (sym (sets_append l i u v))

  -- what begins with p, and the next piece after it
  pub laid_next : (p bs l : List A) → length p + length bs ≤ length l
      → sets (p ++ drop (length p) l) (length p) bs ≡ (p ++ bs) ++ drop (length p + length bs) l
  laid_next p bs l h =
      let long : length p + length bs ≤ length (p ++ drop (length p) l) = simp (length-append, length-drop) (omega arith) in
      rw (sets-eq bs (p ++ drop (length p) l) (length p) long, take-append_seam, drop-append-add, drop-drop)

pub length_bytes : (k n : ℕ) → length (le_bytes k n) ≡ k
unfolding le_bytes
length_bytes zero n = refl
length_bytes (suc k) n = ap suc (length_bytes k (n / 256))

-- a number below 256 is its first byte, and the others are zero
pub byte_alone : (k n : ℕ) → n < 256 → le_bytes (suc k) n ≡ n ∷ replicate k 0
unfolding le_bytes
byte_alone k n h =
    let first : n % 256 ≡ n = omega arith in
    let rest : n / 256 ≡ 0 = omega arith in
    rw (first, rest, zeros k)
  where
    zeros : (k : ℕ) → le_bytes k 0 ≡ replicate k 0
    zeros zero = refl
    zeros (suc k) = ap (λ (l : List ℕ). 0 ∷ l) (zeros k)

-- a number in range is known by its bytes
pub bytes_back : (k n m : ℕ) → n < 256 ^ k → m < 256 ^ k → le_bytes k n ≡ le_bytes k m → n ≡ m
unfolding le_bytes
bytes_back zero n m hn hm e = omega arith
bytes_back (suc k) n m hn hm e =
    let low : n % 256 ≡ m % 256 = cc in
    let rest : le_bytes k (n / 256) ≡ le_bytes k (m / 256) = cc in
    let p = pow_step 256 k in
    omega (arith, bytes_back k (n / 256) (m / 256) (omega arith) (omega arith) rest)

-- the bytes of two numbers side by side are those of one
pub bytes_joined : (j k low high : ℕ) → low < 256 ^ j → le_bytes (j + k) (low + 256 ^ j * high) ≡ le_bytes j low ++ le_bytes k high
unfolding le_bytes
bytes_joined zero k low high h =
    let e : 0 + k ≡ k = omega arith in
    let n : low + 256 ^ 0 * high ≡ high = omega arith in
    rw (e, n)
bytes_joined (suc j) k low high h =
    let e : suc j + k ≡ suc (j + k) = omega arith in
    let n : low + 256 ^ suc j * high ≡ low + 256 * (256 ^ j * high) = rw (pow_step 256 j, mul_assoc) in
    let first : (low + 256 * (256 ^ j * high)) % 256 ≡ low % 256 = omega arith in
    let rest : (low + 256 * (256 ^ j * high)) / 256 ≡ low / 256 + 256 ^ j * high = omega arith in
    let p = pow_step 256 j in
    rw (e, n, first, rest, bytes_joined j k (low / 256) high (omega arith))

-- the low j bytes, and those after them
pub bytes_split : (j k n : ℕ) → le_bytes (j + k) n ≡ le_bytes j (n % 256 ^ j) ++ le_bytes k (n / 256 ^ j)
bytes_split j k n =
    ap (le_bytes (j + k)) (sym (mod-add-div n (256 ^ j))) ∙ bytes_joined j k (n % 256 ^ j) (n / 256 ^ j) (mod-lt n (one-le-pow j 256 (omega arith)))
