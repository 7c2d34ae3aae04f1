-- The header, a node's head and a slot, as they are read from a place on: where the bytes are the same, they are the same.
-- Assumes nothing.
use mathlib.Core.Path.{◌≡◌, refl, ap}
use mathlib.Core.List.{List}
use Prim.Native.Nat.{ℕ, ◌+◌, ◌<◌, ◌≤◌}
use native.Mathlib.Omega.{arith}
use lib.Dec.{eqb}
use mir.Syntax.{w32}
use mir.Val.{to_z}
use Rattle.words.specs.Words.{le_at, i32_at}
use Rattle.floor.specs.declared.Header.{Header}
use Rattle.floor.specs.declared.Node.{Node}
use Rattle.floor.specs.declared.Slot.{Slot}
use Rattle.floor.specs.Layout.{axis_count, header_size, head_size, slot_size, span_from, ref_from, zone_from, zeros_from, slot_at}
use Rattle.floor.specs.View.{View, view_of, slot_span, slot_ref, slot_zone, slot_zeros}

-- what a view shows of its header and of a node before its slots
abbrev pub header_of : View → Header
header_of v = record { count = v.count; root = v.root; height = v.height; clear = v.clear }

abbrev pub head_of : View → ℕ → Node
head_of v n = record { level = v.level n; occupied = v.occupied n; clear = v.node_clear n }

-- the same as it is read from bytes; a slot, too
abbrev pub header_from : List ℕ → Header
header_from m = record { count = le_at 2 m 0; root = le_at 2 m 2; height = le_at 1 m 4; clear = eqb (le_at 3 m 5) 0 }

abbrev pub head_from : List ℕ → ℕ → Node
head_from m at = record { level = le_at 1 m at; occupied = le_at 1 m (at + 1); clear = eqb (le_at 2 m (at + 2)) 0 }

abbrev pub slot_from : List ℕ → ℕ → Slot
slot_from m at =
    record {
      bounds = record { x = slot_span m at 0; y = slot_span m at 1 };
      reference = slot_ref m at;
      zone = slot_zone m at;
      clear = slot_zeros m at;
    }

-- a view of bytes shows what is read from them
module _ (m : List ℕ) where
  pub span_placed : (j a : ℕ) → (view_of m).span j a ≡ slot_span m (slot_at j) a
  unfolding view_of
  span_placed j a = refl

  pub ref_placed : (j : ℕ) → (view_of m).ref j ≡ slot_ref m (slot_at j)
  unfolding view_of
  ref_placed j = refl

  pub zone_placed : (j : ℕ) → (view_of m).zone j ≡ slot_zone m (slot_at j)
  unfolding view_of
  zone_placed j = refl

-- so many bytes from p on in l, and from q on in m, make the same numbers
abbrev pub SameBytes : ℕ → List ℕ → ℕ → List ℕ → ℕ → Type 0
SameBytes size l p m q = (k d : ℕ) → d + k ≤ size → le_at k l (p + d) ≡ le_at k m (q + d)

module _ (l : List ℕ) (p : ℕ) (m : List ℕ) (q : ℕ) where
  pub head_same : SameBytes head_size l p m q → head_from l p ≡ head_from m q
  head_same h =
      let e : p + 0 ≡ p = omega arith in
      let f : q + 0 ≡ q = omega arith in
      let level : le_at 1 l p ≡ le_at 1 m q = rw (e, f) at (h 1 0 (omega arith)) in
      let occupied = h 1 1 (omega arith) in
      let clear = ap (λ (x : ℕ). eqb x 0) (h 2 2 (omega arith)) in
      λ i. record { level = level i; occupied = occupied i; clear = clear i }

  module _ (h : SameBytes (slot_size axis_count) l p m q) where
    span_same : (a : ℕ) → a < axis_count → slot_span l p a ≡ slot_span m q a
    span_same a less =
        let e : p + span_from a + 4 ≡ p + (span_from a + 4) = omega arith in
        let f : q + span_from a + 4 ≡ q + (span_from a + 4) = omega arith in
        let low = ap (to_z w32) (h 4 (span_from a) (omega arith)) in
        let high : i32_at l (p + span_from a + 4) ≡ i32_at m (q + span_from a + 4) = rw (e, f) (ap (to_z w32) (h 4 (span_from a + 4) (omega arith))) in
        λ i. record { low = low i; high = high i }

    pub slot_same : slot_from l p ≡ slot_from m q
    slot_same =
        let x = span_same 0 (omega arith) in
        let y = span_same 1 (omega arith) in
        let ref = h 4 (ref_from axis_count) (omega arith) in
        let zone = h 1 (zone_from axis_count) (omega arith) in
        let clear = ap (λ (z : ℕ). eqb z 0) (h 3 (zeros_from axis_count) (omega arith)) in
        λ i. record { bounds = record { x = x i; y = y i }; reference = ref i; zone = zone i; clear = clear i }

pub header_same : (l m : List ℕ) → SameBytes header_size l 0 m 0 → header_from l ≡ header_from m
header_same l m h =
    let count = h 2 0 (omega arith) in
    let root = h 2 2 (omega arith) in
    let height = h 1 4 (omega arith) in
    let clear = ap (λ (x : ℕ). eqb x 0) (h 3 5 (omega arith)) in
    λ i. record { count = count i; root = root i; height = height i; clear = clear i }
