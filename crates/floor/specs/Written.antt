-- A map's bytes as they are written: a slot, a whole node, the header. Document 01, 'The floor map, byte by byte'.
use Rattle.std.specs.Prelude.{true, List, [], ◌∷◌, ◌++◌, ℕ, zero, suc, ◌+◌, ◌<◌, ◌≤◌, pos, length, get_or, replicate}
use Rattle.std.proofs.lemmas.List.Edits.{sets}
use Rattle.words.specs.Words.{le_bytes, i32_bytes}
use Rattle.measure.specs.declared.Bounds.{Bounds}
use Rattle.measure.specs.declared.Span.{Span}
use Rattle.floor.specs.declared.Slot.{Slot}
use Rattle.floor.specs.Layout.{axis_count, slot_size, node_size, node_at, slot_at}
use Rattle.floor.specs.View.{span_on}

-- low, then high; and so for the first axes
abbrev pub span_bytes : Span → List ℕ
span_bytes s = i32_bytes s.low ++ i32_bytes s.high

abbrev pub spans_bytes : Bounds → ℕ → List ℕ
spans_bytes b zero = []
spans_bytes b (suc a) = spans_bytes b a ++ span_bytes (span_on b a)

-- the spans, the reference (4), the zone (1), three zero bytes
unfoldable pub slot_bytes : Slot → List ℕ
slot_bytes s = spans_bytes s.bounds axis_count ++ le_bytes 4 s.reference ++ (s.zone ∷ replicate 3 0)

-- level (1), occupancy (1), two zero bytes
abbrev pub head_bytes : ℕ → ℕ → List ℕ
head_bytes level occupied = level ∷ occupied ∷ replicate 2 0

-- a slot that is not filled
abbrev pub blank : Slot
blank =
    record {
      bounds = record { x = record { low = pos 0; high = pos 0 }; y = record { low = pos 0; high = pos 0 } };
      reference = 0;
      zone = 0;
      clear = true;
    }

-- a whole node: its level, its occupancy, and its slots, of which those past the list's end are blank
pub record Whole : Type 0 where
  pub level : ℕ
  pub occupied : ℕ
  pub slots : List Slot

abbrev pub whole : ℕ → ℕ → List Slot → Whole
whole level occupied slots = record { level = level; occupied = occupied; slots = slots }

-- the first slots of a node, and all of it
unfoldable pub slots_bytes : List Slot → ℕ → List ℕ
slots_bytes slots zero = []
slots_bytes slots (suc i) = slots_bytes slots i ++ slot_bytes (get_or slots i blank)

abbrev pub node_bytes : Whole → List ℕ
node_bytes h = head_bytes h.level h.occupied ++ slots_bytes h.slots 8

-- node count (2), root (2), height (1), three zero bytes
abbrev pub header_bytes : ℕ → ℕ → ℕ → List ℕ
header_bytes count root height = le_bytes 2 count ++ le_bytes 2 root ++ (height ∷ replicate 3 0)

-- the bytes of slot j are there, and those of node n
pub record HasSlot (m : List ℕ) (j : ℕ) : Type 0 where
  pub few : j < 2048
  pub inside : slot_at j + slot_size axis_count ≤ length m

pub record HasNode (m : List ℕ) (n : ℕ) : Type 0 where
  pub few : n < 256
  pub inside : node_at n + node_size axis_count ≤ length m

-- slot j written anew, node n, and the header
abbrev pub put_slot : List ℕ → ℕ → Slot → List ℕ
put_slot m j s = sets m (slot_at j) (slot_bytes s)

abbrev pub put_node : List ℕ → ℕ → Whole → List ℕ
put_node m n h = sets m (node_at n) (node_bytes h)

abbrev pub put_header : List ℕ → ℕ → ℕ → ℕ → List ℕ
put_header m count root height = sets m 0 (header_bytes count root height)
