-- One turn of each search: what is left of it after the turn. Assumes nothing.
use mathlib.Core.Path.{◌≡◌, refl}
use mathlib.Core.Bool.{true, false, cond}
use mathlib.Core.List.{List, [], ◌∷◌}
use Prim.Native.Nat.{ℕ, zero, suc, ◌+◌, ◌*◌, ◌-◌, ◌%◌, ◌<◌}
use native.Mathlib.Omega.{arith}
use lib.Dec.{eqb, ltb}
use lib.ListN.{length, get_or}
use borrow.Author.Tests.{le-leb, eq-eqb, ne_eqb, lt-ltb, le-ltb}
use Rattle.std.specs.List.{All, AllWithin}
use Rattle.std.proofs.lemmas.List.{get_or_default}
use Rattle.floor.specs.View.{View}
use Rattle.bays.specs.declared.sorted.Key.{Key}
use Rattle.bays.specs.Certificate.{InOrder, entry_ref, walk_of, entry_from}

-- the entry of a slot refers to what the slot refers to
pub own_entry : (v : View) (j : ℕ) → j < 8 * v.count → entry_ref v (j + 1) ≡ v.ref j
unfolding entry_ref
own_entry v j h =
    let back : j + 1 - 1 ≡ j = omega arith in
    rw (le-leb 1 (j + 1) (omega arith), le-leb (j + 1) (8 * v.count) (omega arith), back) refl

-- what is left of a walk after the entry that it meets
module _ (v : View) (table : List ℕ) (b at : ℕ) where
  abbrev entry : ℕ
  entry = get_or table at 0

  pub walk_turn : (left : ℕ) → 0 < left → walk_of v table b left at ≡ cond (eqb entry 0) 0 (cond (eqb (entry_ref v entry) b) entry (walk_of v table b (left - 1) ((at + 1) % 4096)))
  unfolding walk_of
  walk_turn zero h = absurd (omega arith)
  walk_turn (suc left) h =
      let e : suc left - 1 ≡ left = omega arith in
      rw e refl

  pub walk_ends : (left : ℕ) → 0 < left → entry ≡ 0 → walk_of v table b left at ≡ 0
  walk_ends left h free = rw (walk_turn left h, eq-eqb entry 0 free) refl

  pub walk_meets : (left : ℕ) → 0 < left → (entry ≡ 0 → ⊥) → entry_ref v entry ≡ b → walk_of v table b left at ≡ entry
  walk_meets left h full hit = rw (walk_turn left h, ne_eqb entry 0 full, eq-eqb (entry_ref v entry) b hit) refl

  pub walk_goes : (left : ℕ) → 0 < left → (entry ≡ 0 → ⊥) → (entry_ref v entry ≡ b → ⊥) → walk_of v table b left at ≡ walk_of v table b (left - 1) ((at + 1) % 4096)
  walk_goes left h full miss = rw (walk_turn left h, ne_eqb entry 0 full, ne_eqb (entry_ref v entry) b miss) refl

-- the key at a place before which all are lower
pub from_meets : (b : ℕ) (keys : List Key) (at : ℕ) (d : Key) → AllWithin (λ k. ltb k.number b ≡ true) keys 0 at → at < length keys → ltb (get_or keys at d).number b ≡ false → entry_from keys b ≡ (get_or keys at d).entry
unfolding entry_from
from_meets b [] at d low h not_low = absurd (omega arith)
from_meets b (k ∷ ks) zero d low h not_low = rw not_low refl
from_meets b (k ∷ ks) (suc at) d low h not_low =
    rw (low 0 d (omega arith) (omega arith)) (from_meets b ks at d (λ i e l m. low (suc i) e (omega arith) (omega arith)) (omega arith) not_low)

-- the key at a place that has the number, where the one before it has a lower one
pub first_meets : (b : ℕ) (keys : List Key) (at : ℕ) (d : Key) → InOrder keys → at < length keys → (get_or keys at d).number ≡ b → (0 < at → (get_or keys (at - 1) d).number < b) → entry_from keys b ≡ (get_or keys at d).entry
first_meets b keys at d order h here before =
    from_meets b keys at d (λ k e low high. lower k e high) h (le-ltb (get_or keys at d).number b (omega (arith, here)))
  where
    last : (e : Key) → 0 < at → (get_or keys (at - 1) e).number < b
    last e pos = rw (get_or_default keys (at - 1) e d (omega arith)) (before pos)

    lower : (k : ℕ) (e : Key) → k < at → ltb (get_or keys k e).number b ≡ true
    lower k e high = lt-ltb (get_or keys k e).number b (omega (arith, last e (omega arith), order k (at - 1) e (omega arith) (omega arith)))

-- where all are lower
pub from_ends : (b : ℕ) (keys : List Key) → All (λ k. ltb k.number b ≡ true) keys → entry_from keys b ≡ 0
unfolding entry_from
from_ends b [] low = refl
from_ends b (k ∷ ks) low = rw (low 0 k (omega arith)) (from_ends b ks (λ i e l. low (suc i) e (omega arith)))
