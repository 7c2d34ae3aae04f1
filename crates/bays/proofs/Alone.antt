-- A rule that forbids a relation between two slots: its test holds exactly when its property does. Assumes nothing.
use mathlib.Core.Path.{ap}
use mathlib.Core.Bool.{Bool, not}
use Prim.Native.Nat.{ℕ, ◌+◌, ◌*◌, ◌<◌}
use native.Mathlib.Omega.{arith}
use Rattle.numbers.specs.Exactly.{Exactly}
use Rattle.numbers.proofs.Exactly.{means, all_is, eights_is}
use Rattle.floor.specs.View.{View}
use Rattle.bays.specs.Alone.{alone_by, apart_by, ApartBy, NoneBy}

-- P says of two slots that they are not related
module _ (related : ℕ → ℕ → Bool) {P : ℕ → ℕ → Type 0} (is : (j k : ℕ) → Exactly (not (related j k)) (P j k)) (v : View) where
  pub alone_is : (j : ℕ) → Exactly (alone_by related v j) ((k : ℕ) → k < 8 * v.count → P j k)
  alone_is j = eights_is (is j) v.count

  pub apart_is : (n : ℕ) → Exactly (apart_by related v n) (ApartBy P v n)
  apart_is n = means (all_is (λ i. alone_is (8 * n + i)) 8) (λ h i k a b. h i a k b) (λ h i a k b. h i k a b)

  -- where no two slots are related, every node keeps the rule
  pub none_apart : NoneBy related v → (n : ℕ) → n < v.count → ApartBy P v n
  none_apart none n l i k a b = (is (8 * n + i) k).sound (ap not (none (8 * n + i) k (omega arith) b))
