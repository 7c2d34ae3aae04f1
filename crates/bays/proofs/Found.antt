-- Where every bay is found again from its number alone, no number stands twice. Assumes nothing.
use mathlib.Core.Path.{◌≡◌, ap}
use mathlib.Core.Bool.{true}
use Prim.Native.Nat.{ℕ, ◌+◌, ◌*◌, ◌/◌, ◌%◌, ◌<◌}
use native.Mathlib.Omega.{arith}
use borrow.Author.Tests.{eqb-true, not-true}
use Rattle.numbers.proofs.Below.{all_sound}
use Rattle.floor.specs.View.{View, bay}
use Rattle.bays.specs.Bays.{twin, NoTwins, OneSlot}
use Rattle.bays.specs.Certificate.{found_at, found_all}
use Rattle.bays.proofs.Exact.{twin_is}

module _ (find : ℕ → ℕ) (v : View) (ok : found_all find v ≡ true) where
  found_slot : (j : ℕ) → j < 8 * v.count → found_at find v j ≡ true
  unfolding found_all
  found_slot j h =
      let node = j / 8 in
      let all = all_sound _ v.count ok node (omega arith) in
      let e : 8 * node + j % 8 ≡ j = omega arith in
      rw e at (all_sound (λ i. found_at find v (8 * node + i)) 8 all (j % 8) (omega arith))

  found_again : (j : ℕ) → j < 8 * v.count → bay v j ≡ true → find (v.ref j) ≡ j + 1
  unfolding found_at
  found_again j h b = eqb-true _ _ (rw b at (found_slot j h))

  same : (j k : ℕ) → j < 8 * v.count → k < 8 * v.count → OneSlot v j k
  same j k hj hk bj bk e = omega (arith, found_again j hj bj, found_again k hk bk, ap find e)

  pub found_no_twins : NoTwins v
  found_no_twins j k hj hk = not-true (twin v j k) ((twin_is v j k).complete (same j k hj hk))
