-- A view with one node written anew, and a view with another header. Every change to a map is made of these two.
use Rattle.std.specs.Prelude.{◌≡◌, true, cond, ℕ, ◌/◌, ◌%◌, eqb, get_or}
use Rattle.floor.specs.declared.Slot.{Slot}
use Rattle.floor.specs.Layout.{map_size}
use Rattle.floor.specs.View.{View, slot_of, span_on}
use Rattle.floor.specs.Written.{Whole, blank}

abbrev pub slot_of_whole : Whole → ℕ → Slot
slot_of_whole h j = get_or h.slots (j % 8) blank

-- node n written anew
unfoldable pub with_node : View → ℕ → Whole → View
with_node v n h =
    record {
      size = v.size;
      count = v.count;
      root = v.root;
      height = v.height;
      clear = v.clear;
      level = λ k. cond (eqb k n) h.level (v.level k);
      occupied = λ k. cond (eqb k n) h.occupied (v.occupied k);
      node_clear = λ k. cond (eqb k n) true (v.node_clear k);
      span = λ j a. cond (eqb (j / 8) n) (span_on (slot_of_whole h j).bounds a) (v.span j a);
      ref = λ j. cond (eqb (j / 8) n) (slot_of_whole h j).reference (v.ref j);
      zone = λ j. cond (eqb (j / 8) n) (slot_of_whole h j).zone (v.zone j);
      slot_clear = λ j. cond (eqb (j / 8) n) (slot_of_whole h j).clear (v.slot_clear j);
    }

-- the header written anew; the length agrees with it
unfoldable pub with_header : View → ℕ → ℕ → ℕ → View
with_header v count root height =
    record {
      size = map_size count;
      count = count;
      root = root;
      height = height;
      clear = true;
      level = v.level;
      occupied = v.occupied;
      node_clear = v.node_clear;
      span = v.span;
      ref = v.ref;
      zone = v.zone;
      slot_clear = v.slot_clear;
    }

-- two views show the same
pub record SameView (v w : View) : Type 0 where
  pub size : v.size ≡ w.size
  pub count : v.count ≡ w.count
  pub root : v.root ≡ w.root
  pub height : v.height ≡ w.height
  pub clear : v.clear ≡ w.clear
  pub level : (n : ℕ) → v.level n ≡ w.level n
  pub occupied : (n : ℕ) → v.occupied n ≡ w.occupied n
  pub node_clear : (n : ℕ) → v.node_clear n ≡ w.node_clear n
  pub slot : (j : ℕ) → slot_of v j ≡ slot_of w j
