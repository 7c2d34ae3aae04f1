-- What was written is what is read, at every width, and nothing else is touched. Assumes nothing.
use mathlib.Core.Path.{◌≡◌, refl, ◌∙◌}
use mathlib.Core.List.{List, [], ◌∷◌, ◌++◌, append-nil}
use mathlib.Core.Logic.{◌⊎◌, inl, inr, ⊎_elim}
use Prim.Native.Nat.{ℕ, zero, suc, ◌+◌, ◌/◌, ◌%◌, ◌^◌, ◌<◌, ◌≤◌}
use native.Mathlib.Numerals.{add-one}
use native.Mathlib.Omega.{arith, pow_step}
use lib.ListN.{length, get_or, set, take, drop, length-set, get_or-append}
use lib.Seq.{sets, get_or-set_same, get_or-set_other, get_or-append-add, drop-cons}
use mir.Syntax.{w8}
use mir.Val.{Fits}
use Rattle.words.specs.Words.{le_at, le_bytes}
use Rattle.words.proofs.Reading.{le_same, le_byte, le_first, le_rest, le_drop}
use Rattle.words.proofs.Stores.{length_bytes}

-- ---- one place after a run of stores

sets_beside : (bs m : List ℕ) (at p : ℕ) → (p < at) ⊎ (at + length bs ≤ p) → get_or (sets m at bs) p 0 ≡ get_or m p 0
sets_beside [] m at p h = refl
sets_beside (b ∷ bs) m at p h =
    sets_beside bs (set m at b) (suc at) p (⊎_elim (λ a. inl (omega arith)) (λ a. inr (omega arith)) h)
    ∙ get_or-set_other m at p b 0 (λ e. ⊎_elim (λ a. omega arith) (λ a. omega arith) h)

sets_in : (bs m : List ℕ) (at i : ℕ) → i < length bs → at + length bs ≤ length m → get_or (sets m at bs) (at + i) 0 ≡ get_or bs i 0
sets_in [] m at i h l = absurd (omega arith)
sets_in (b ∷ bs) m at zero h l =
    let e : at + zero ≡ at = omega arith in
    rw e (sets_beside bs (set m at b) (suc at) at (inl (omega arith)) ∙ get_or-set_same m at b 0 (omega arith))
sets_in (b ∷ bs) m at (suc i) h l =
    let e : at + suc i ≡ suc at + i = omega arith in
    rw e (sets_in bs (set m at b) (suc at) i (omega arith) (simp length-set (omega arith)))

-- ---- a number after a run of stores

module _ (bs m : List ℕ) (at : ℕ) where
  -- a number that lies apart from what was stored is as it was
  pub le_beside : (k p : ℕ) → (p + k ≤ at) ⊎ (at + length bs ≤ p) → le_at k (sets m at bs) p ≡ le_at k m p
  le_beside k p h =
      le_same k (sets m at bs) m p p
      (λ i less. sets_beside bs m at (p + i) (⊎_elim (λ a. inl (omega arith)) (λ a. inr (omega arith)) h))

  -- a number within what was stored
  pub le_within : (k d : ℕ) → d + k ≤ length bs → at + length bs ≤ length m → le_at k (sets m at bs) (at + d) ≡ le_at k bs d
  le_within k d h l =
      le_same k (sets m at bs) bs (at + d) d
      (λ i less. let e : at + d + i ≡ at + (d + i) = omega arith in rw e (sets_in bs m at (d + i) (omega arith) l))

-- a number before others, and after others
pub le_before : (k d : ℕ) (p l : List ℕ) → d + k ≤ length p → le_at k (p ++ l) d ≡ le_at k p d
le_before k d p l h = le_same k (p ++ l) p d d (λ i less. get_or-append p l 0 (d + i) (omega arith))

pub le_after : (k d : ℕ) (p l : List ℕ) → le_at k (p ++ l) (length p + d) ≡ le_at k l d
le_after k d p l =
    le_same k (p ++ l) l (length p + d) d
    (λ i less. let e : length p + d + i ≡ length p + (d + i) = omega arith in rw (e, get_or-append-add))

-- ---- the round trip

-- the bytes of a number, with others after them, make it again
pub bytes_again : (k n : ℕ) (rest : List ℕ) → n < 256 ^ k → le_at k (le_bytes k n ++ rest) 0 ≡ n
unfolding le_at le_bytes
bytes_again zero n rest h = omega arith
bytes_again (suc k) n rest h =
    let p = pow_step 256 k in
    let later = le_drop k 1 0 (n % 256 ∷ le_bytes k (n / 256) ++ rest) in
    omega (arith, later, bytes_again k (n / 256) rest (omega arith))

pub bytes_after : (k n : ℕ) (p rest : List ℕ) (at : ℕ) → length p ≡ at → n < 256 ^ k → le_at k (p ++ (le_bytes k n ++ rest)) at ≡ n
bytes_after k n p rest at e h =
    let place : at ≡ length p + 0 = omega arith in
    rw place (le_after k 0 p (le_bytes k n ++ rest) ∙ bytes_again k n rest h)

-- what was written is what is read
pub le_again : (k n : ℕ) (m : List ℕ) (at : ℕ) → n < 256 ^ k → at + k ≤ length m → le_at k (sets m at (le_bytes k n)) at ≡ n
le_again k n m at h l =
    let e : at + 0 ≡ at = omega arith in
    let long = length_bytes k n in
    let written = rw e at (le_within (le_bytes k n) m at k 0 (omega arith) (omega arith)) in
    written ∙ rw append-nil at (bytes_again k n [] h)

-- what is read, written again, is the bytes that were there
pub bytes_read : (m : List ℕ) → ((i : ℕ) → Fits w8 (get_or m i 0)) → (k at : ℕ)
    → at + k ≤ length m → le_bytes k (le_at k m at) ≡ take k (drop at m)
unfolding le_bytes
bytes_read m b zero at l = refl
bytes_read m b (suc k) at l =
    rw (drop-cons m at 0 (omega arith), le_first m b k at, le_byte m at, le_rest m b k at, add-one at, bytes_read m b k (suc at) (omega arith))
