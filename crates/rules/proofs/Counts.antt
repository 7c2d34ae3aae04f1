-- The naming counts: a slot that names a node adds one to the count of that node, and nothing to any other; a slot that
-- names none adds nothing, and so do the slots of a leaf.
-- Assumes nothing.
use mathlib.Core.Path.{◌≡◌, refl, sym, ◌∙◌}
use mathlib.Core.Bool.{true, false}
use mathlib.Core.List.{List}
use Prim.Native.Nat.{ℕ, ◌+◌, ◌*◌, ◌/◌, ◌<◌, ◌≤◌}
use native.Mathlib.Omega.{arith}
use native.Mathlib.Decide.{ℕ_discrete}
use borrow.Author.Tests.{eq-eqb, ne_eqb}
use lib.ListN.{length, get_or, set, replicate, length-set}
use lib.Seq.{get_or-set_same, get_or-set_other}
use Rattle.std.proofs.Math.ListN.{get_or-replicate}
use Rattle.numbers.specs.Below.{one, count_below}
use Rattle.numbers.proofs.Below.{count_more, count_skip, count_most}
use Rattle.floor.specs.View.{View, leaf, link}
use Rattle.rules.specs.Links.{names}

-- the counts of the slots below j
pub record CountedTo (v : View) (xs : List ℕ) (j : ℕ) : Type 0 where
  pub long : length xs ≡ 256
  pub each : (t : ℕ) → t < 256 → get_or xs t 0 ≡ count_below (names v t) j

pub none_counted : (v : View) → CountedTo v (replicate 256 0) 0
none_counted v = record { long = refl; each = λ t h. get_or-replicate 256 t 0 0 h }

module _ (v : View) (xs : List ℕ) where
  pub counted_at : {j k : ℕ} → j ≡ k → CountedTo v xs j → CountedTo v xs k
  counted_at e c = rw e at c

  -- a count is at most the number of slots
  pub counted_most : (j t : ℕ) → t < 256 → CountedTo v xs j → get_or xs t 0 ≤ j
  counted_most j t h c = omega (arith, c.each t h, count_most (names v t) j)

  pub leaf_passed : (n : ℕ) → leaf v n ≡ true → CountedTo v xs (8 * n) → CountedTo v xs (8 * (n + 1))
  leaf_passed n l c = record { long = c.long; each = λ t h. c.each t h ∙ sym (skip t) }
    where
      none : (t i : ℕ) → i < 8 → names v t (8 * n + i) ≡ false
      none t i h =
          let home : (8 * n + i) / 8 ≡ n = omega arith in
          rw (home, l)

      skip : (t : ℕ) → count_below (names v t) (8 * (n + 1)) ≡ count_below (names v t) (8 * n)
      skip t =
          let next : 8 * (n + 1) ≡ 8 * n + 8 = omega arith in
          rw next (count_skip (names v t) (8 * n) 8 (none t))

  pub unnamed_passed : (j : ℕ) → link v j ≡ false → CountedTo v xs j → CountedTo v xs (j + 1)
  unnamed_passed j l c =
      record {
        long = c.long;
        each = λ t h.
            let none : one (names v t j) ≡ 0 = rw l in
            rw (count_more (names v t) j) (omega (arith, c.each t h, none));
      }

  pub named_counted : (j : ℕ) → link v j ≡ true → v.ref j < 256 → CountedTo v xs j
      → CountedTo v (set xs (v.ref j) (get_or xs (v.ref j) 0 + 1)) (j + 1)
  named_counted j l few c = record { long = length-set xs _ _ ∙ c.long; each = λ t h. by t h (ℕ_discrete (v.ref j) t) }
    where
      by : (t : ℕ) → t < 256 → Dec (v.ref j ≡ t) → get_or (set xs (v.ref j) (get_or xs (v.ref j) 0 + 1)) t 0 ≡ count_below (names v t) (j + 1)
      by t h (yes e) =
          let more : one (names v t j) ≡ 1 = rw (l, eq-eqb (v.ref j) t e) in
          rw e (rw (get_or-set_same xs t (get_or xs t 0 + 1) 0 (omega (arith, c.long)), count_more (names v t) j) (omega (arith, c.each t h, more)))
      by t h (no d) =
          let none : one (names v t j) ≡ 0 = rw (l, ne_eqb (v.ref j) t d) in
          rw (get_or-set_other xs (v.ref j) t (get_or xs (v.ref j) 0 + 1) 0 (λ e. d (sym e)), count_more (names v t) j)
          (omega (arith, c.each t h, none))
