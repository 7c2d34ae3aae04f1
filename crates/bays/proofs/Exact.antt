-- Rule 16's test holds exactly when its property does, and a map without twins keeps it. Assumes nothing.
use mathlib.Core.Bool.{not}
use Prim.Native.Nat.{ℕ, ◌<◌}
use native.Mathlib.Decide.{ℕ_discrete}
use Rattle.numbers.specs.Exactly.{Exactly}
use Rattle.numbers.proofs.Exactly.{flag_is, eq_is, ne_is, not_is, and_is, means}
use Rattle.floor.specs.View.{View, bay}
use Rattle.bays.specs.Bays.{twin, NoTwins, bays_ok, OneSlot, BaysApart}
use Rattle.bays.proofs.Alone.{apart_is, none_apart}

-- two slots are no twins when one bay number makes them one slot
pub twin_is : (v : View) (j k : ℕ) → Exactly (not (twin v j k)) (OneSlot v j k)
unfolding twin
twin_is v j k =
    means
    (not_is _ (and_is (and_is (flag_is (bay v j)) (flag_is (bay v k))) (and_is (ne_is j k) (eq_is (v.ref j) (v.ref k)))))
    (λ h a b e. elim (ℕ_discrete j k) [ yes p ↦ p | no q ↦ absurd (h ((a, b), (q, e))) ])
    (λ h t. t.1.0 (h t.0.0 t.0.1 t.1.1))

pub bays_exactly : (v : View) (n : ℕ) → Exactly (bays_ok v n) (BaysApart v n)
unfolding bays_ok
bays_exactly v = apart_is (twin v) (twin_is v) v

pub no_twins : (v : View) → NoTwins v → (n : ℕ) → n < v.count → BaysApart v n
no_twins v = none_apart (twin v) (twin_is v) v
