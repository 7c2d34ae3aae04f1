-- A slot that names a node is a filled slot above the leaves. Assumes nothing.
use mathlib.Core.Path.{◌≡◌}
use mathlib.Core.Bool.{true, false, not}
use Prim.Native.Nat.{ℕ, ◌+◌, ◌*◌, ◌/◌, ◌<◌}
use native.Mathlib.Omega.{arith}
use borrow.Author.Tests.{not-true}
use Rattle.std.proofs.lemmas.Bool.{and_parts}
use Rattle.floor.specs.View.{View, filled, leaf, link}

module _ (v : View) (j : ℕ) where
  -- above the leaves every filled slot names a node
  pub link_above : leaf v (j / 8) ≡ false → link v j ≡ filled v j
  link_above e = rw e

  -- the same of slot i of node n, by the node
  pub link_inside : (n i : ℕ) → i < 8 → j ≡ 8 * n + i → leaf v n ≡ false → link v j ≡ filled v j
  link_inside n i h e l =
      let home : j / 8 ≡ n = omega arith in
      rw (home, l)

  link_parts : link v j ≡ true → (not (leaf v (j / 8)) ≡ true) × (filled v j ≡ true)
  link_parts l = and_parts (not (leaf v (j / 8))) (filled v j) l

  pub link_filled : link v j ≡ true → filled v j ≡ true
  link_filled l = (link_parts l).1

  pub link_inner : link v j ≡ true → leaf v (j / 8) ≡ false
  link_inner l = not-true (leaf v (j / 8)) (link_parts l).0
