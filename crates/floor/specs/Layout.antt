-- Where a map's fields lie, and how long they are. Document 01, 'The floor map, byte by byte'. All of it follows from the
-- number of axes. Slots are numbered through the whole map: slot i of node n is slot 8·n + i.
use Rattle.std.specs.Prelude.{ℕ, ◌+◌, ◌*◌, ◌/◌, ◌%◌}

-- how many axes there are
abbrev pub axis_count : ℕ
axis_count = 2

abbrev pub header_size : ℕ
header_size = 8

-- a node before its slots: level, occupancy, two zero bytes
abbrev pub head_size : ℕ
head_size = 4

-- a span: low and high
abbrev pub span_size : ℕ
span_size = 8

-- in a slot: the span on an axis, then the reference (4), the zone (1), three zero bytes
abbrev pub span_from : ℕ → ℕ
span_from a = span_size * a

abbrev pub ref_from : ℕ → ℕ
ref_from axes = span_from axes

abbrev pub zone_from : ℕ → ℕ
zone_from axes = ref_from axes + 4

abbrev pub zeros_from : ℕ → ℕ
zeros_from axes = zone_from axes + 1

abbrev pub slot_size : ℕ → ℕ
slot_size axes = zeros_from axes + 3

-- eight slots to a node
abbrev pub node_size : ℕ → ℕ
node_size axes = head_size + 8 * slot_size axes

-- where node n begins, where slot j begins, and how long a map of n nodes is
abbrev pub node_at : ℕ → ℕ
node_at n = header_size + node_size axis_count * n

abbrev pub slot_at : ℕ → ℕ
slot_at j = node_at (j / 8) + head_size + slot_size axis_count * (j % 8)

abbrev pub map_size : ℕ → ℕ
map_size n = node_at n
