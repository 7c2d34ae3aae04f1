-- The ones of a node's occupancy are its filled slots. Assumes nothing.
use mathlib.Core.Path.{◌≡◌, ◌∙◌}
use Prim.Native.Nat.{ℕ, ◌+◌, ◌*◌, ◌/◌, ◌%◌, ◌^◌, ◌<◌}
use native.Mathlib.Omega.{arith}
use lib.Count.{ones}
use lib.Dec.{eqb}
use Rattle.numbers.specs.Below.{count_below}
use Rattle.numbers.proofs.Below.{count_agree}
use Rattle.numbers.proofs.Bits.{ones_bits}
use Rattle.floor.specs.View.{View, filled}

pub ones_filled : (v : View) (n : ℕ) → v.occupied n < 256 → ones (v.occupied n) ≡ count_below (λ i. filled v (8 * n + i)) 8
unfolding filled
ones_filled v n small =
    ones_bits 8 (v.occupied n) small ∙ count_agree (λ i. filled v (8 * n + i)) (λ i. eqb (v.occupied n / 2 ^ i % 2) 1) 8 (λ i h.
    let e : (8 * n + i) / 8 ≡ n = omega arith in
    let f : (8 * n + i) % 8 ≡ i = omega arith in
    rw (e, f))
