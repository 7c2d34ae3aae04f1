-- What a floor map says, apart from where its bytes lie. Document 01, 'The floor map, byte by byte'.
-- Axis 0 is x, axis 1 is y.
use Rattle.std.specs.Prelude.{◌≡◌, Bool, not, ◌&&◌, List, ℕ, zero, suc, ◌+◌, ◌/◌, ◌%◌, ◌^◌, ◌<◌, ◌≤◌, eqb, length}
use Rattle.words.specs.Words.{le_at, i32_at}
use Rattle.measure.specs.declared.Bounds.{Bounds}
use Rattle.measure.specs.declared.Span.{Span}
use Rattle.floor.specs.Layout.{axis_count, slot_size, node_at, slot_at, span_from, ref_from, zone_from, zeros_from, map_size}
use Rattle.floor.specs.declared.Header.{Header}
use Rattle.floor.specs.declared.Node.{Node}
use Rattle.floor.specs.declared.Slot.{Slot}

pub record View : Type 0 where
  -- the header: how many bytes there are, N, the root, H, and whether its three zero bytes are zero
  pub size : ℕ
  pub count : ℕ
  pub root : ℕ
  pub height : ℕ
  pub clear : Bool
  -- a node: its level, its occupancy, and whether its two zero bytes are zero
  pub level : ℕ → ℕ
  pub occupied : ℕ → ℕ
  pub node_clear : ℕ → Bool
  -- a slot: its span on an axis, its reference, its zone, and whether its three zero bytes are zero
  pub span : ℕ → ℕ → Span
  pub ref : ℕ → ℕ
  pub zone : ℕ → ℕ
  pub slot_clear : ℕ → Bool

-- a span: low, then high
abbrev pub span_at : List ℕ → ℕ → Span
span_at m at = record { low = i32_at m at; high = i32_at m (at + 4) }

-- the fields of a slot that begins at a place: its span on an axis, its reference, its zone, and whether its zero bytes are zero
abbrev pub slot_span : List ℕ → ℕ → ℕ → Span
slot_span m place a = span_at m (place + span_from a)

abbrev pub slot_ref : List ℕ → ℕ → ℕ
slot_ref m place = le_at 4 m (place + ref_from axis_count)

abbrev pub slot_zone : List ℕ → ℕ → ℕ
slot_zone m place = le_at 1 m (place + zone_from axis_count)

abbrev pub slot_zeros : List ℕ → ℕ → Bool
slot_zeros m place = eqb (le_at 3 m (place + zeros_from axis_count)) 0

unfoldable pub view_of : List ℕ → View
view_of m =
    record {
      size = length m;
      count = le_at 2 m 0;
      root = le_at 2 m 2;
      height = le_at 1 m 4;
      clear = eqb (le_at 3 m 5) 0;
      level = λ n. le_at 1 m (node_at n);
      occupied = λ n. le_at 1 m (node_at n + 1);
      node_clear = λ n. eqb (le_at 2 m (node_at n + 2)) 0;
      span = λ j a. slot_span m (slot_at j) a;
      ref = λ j. slot_ref m (slot_at j);
      zone = λ j. slot_zone m (slot_at j);
      slot_clear = λ j. slot_zeros m (slot_at j);
    }

-- bit i of a node's occupancy is set when slot i is filled
unfoldable pub filled : View → ℕ → Bool
filled v j = eqb (v.occupied (j / 8) / 2 ^ (j % 8) % 2) 1

-- a leaf is a node of level 0
abbrev pub leaf : View → ℕ → Bool
leaf v n = eqb (v.level n) 0

-- a filled slot of a leaf is a bay; any other filled slot names a node
abbrev pub bay : View → ℕ → Bool
bay v j = leaf v (j / 8) && filled v j

abbrev pub link : View → ℕ → Bool
link v j = not (leaf v (j / 8)) && filled v j

-- the box made of a span for each axis, and the span of a box on an axis
abbrev pub bounds_by : (ℕ → Span) → Bounds
bounds_by spans = record { x = spans 0; y = spans 1 }

abbrev pub span_on : Bounds → ℕ → Span
span_on b zero = b.x
span_on b (suc a) = b.y

abbrev pub bounds_of : View → ℕ → Bounds
bounds_of v j = bounds_by (v.span j)

abbrev pub slot_of : View → ℕ → Slot
slot_of v j = record { bounds = bounds_of v j; reference = v.ref j; zone = v.zone j; clear = v.slot_clear j }

-- what the header rule gives to every reader of fields
pub record Shaped (v : View) : Type 0 where
  pub few : v.count ≤ 256
  pub rooted : v.root < v.count
  pub size : v.size ≡ map_size v.count

-- a slot that begins at a place is there, and has a span on the axis
pub record HasSpan (m : List ℕ) (place a : ℕ) : Type 0 where
  pub inside : place + slot_size axis_count ≤ length m
  pub axis : a < axis_count

-- a header as it was read
pub record HeaderRead (v : View) (h : Header) : Type 0 where
  pub count : h.count ≡ v.count
  pub root : h.root ≡ v.root
  pub height : h.height ≡ v.height
  pub clear : h.clear ≡ v.clear
  pub small : h.count < 65536

-- a node as it was read
pub record NodeRead (v : View) (n : ℕ) (r : Node) : Type 0 where
  pub level : r.level ≡ v.level n
  pub occupied : r.occupied ≡ v.occupied n
  pub clear : r.clear ≡ v.node_clear n
