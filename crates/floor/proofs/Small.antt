-- What a view of bytes shows fits the bytes that it is read from. Assumes nothing.
use mathlib.Core.List.{List}
use Prim.Native.Nat.{ℕ, ◌+◌, ◌^◌, ◌<◌}
use lib.ListN.{get_or}
use mir.Syntax.{w8}
use mir.Val.{Fits}
use Rattle.words.proofs.Reading.{le_small}
use Rattle.floor.specs.Layout.{axis_count, node_at, slot_at, ref_from, zone_from}
use Rattle.floor.specs.View.{view_of}

module _ (m : List ℕ) (b : (i : ℕ) → Fits w8 (get_or m i 0)) where
  pub level_small : (n : ℕ) → (view_of m).level n < 256
  unfolding view_of
  level_small n = le_small m b 1 (node_at n)

  pub occupied_small : (n : ℕ) → (view_of m).occupied n < 256
  unfolding view_of
  occupied_small n = le_small m b 1 (node_at n + 1)

  pub ref_small : (j : ℕ) → (view_of m).ref j < 2 ^ 32
  unfolding view_of
  ref_small j = le_small m b 4 (slot_at j + ref_from axis_count)

  pub zone_small : (j : ℕ) → (view_of m).zone j < 256
  unfolding view_of
  zone_small j = le_small m b 1 (slot_at j + zone_from axis_count)
