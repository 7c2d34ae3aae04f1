-- A view with one node written anew: what it shows of that node, and of every other. Assumes nothing.
use mathlib.Core.Path.{◌≡◌, refl}
use mathlib.Core.Bool.{true}
use Prim.Native.Nat.{ℕ, ◌/◌}
use borrow.Author.Tests.{eq-eqb, ne_eqb}
use Rattle.floor.specs.declared.Node.{Node}
use Rattle.floor.specs.View.{View, slot_of}
use Rattle.floor.specs.Written.{Whole}
use Rattle.floor.specs.Edits.{slot_of_whole, with_node}
use Rattle.floor.proofs.Fields.{header_of, head_of}

-- a node's head, as it was written
abbrev pub head_written : Whole → Node
head_written h = record { level = h.level; occupied = h.occupied; clear = true }

module _ (v : View) (n : ℕ) (h : Whole) where
  pub with_header_lem : header_of (with_node v n h) ≡ header_of v
  unfolding with_node
  with_header_lem = refl

  pub with_size : (with_node v n h).size ≡ v.size
  unfolding with_node
  with_size = refl

  pub head_here : (k : ℕ) → k ≡ n → head_of (with_node v n h) k ≡ head_written h
  unfolding with_node
  head_here k e = rw (eq-eqb k n e)

  pub head_there : (k : ℕ) → (k ≡ n → ⊥) → head_of (with_node v n h) k ≡ head_of v k
  unfolding with_node
  head_there k d = rw (ne_eqb k n d)

  pub slot_here : (j : ℕ) → j / 8 ≡ n → slot_of (with_node v n h) j ≡ slot_of_whole h j
  unfolding with_node
  slot_here j e = rw (eq-eqb (j / 8) n e)

  pub slot_there : (j : ℕ) → (j / 8 ≡ n → ⊥) → slot_of (with_node v n h) j ≡ slot_of v j
  unfolding with_node
  slot_there j d = rw (ne_eqb (j / 8) n d)
