-- The stores of the code, one after the other, are the bytes that the contracts name. Assumes nothing.
use mathlib.Core.Path.{◌≡◌, refl, ap, ap₂, ◌∙◌}
use mathlib.Core.List.{List, ◌++◌}
use Prim.Native.Nat.{ℕ, suc, ◌+◌, ◌*◌, ◌<◌, ◌≤◌}
use native.Mathlib.Numerals.{add-one}
use native.Mathlib.Omega.{arith}
use lib.ListN.{length, get_or, set, length-append}
use lib.Seq.{sets, drop-cons}
use Rattle.words.specs.Words.{le_bytes, i32_bytes}
use Rattle.words.proofs.Stores.{sets_next, length_bytes, byte_alone}
use Rattle.measure.specs.declared.Span.{Span}
use Rattle.floor.specs.declared.Slot.{Slot}
use Rattle.floor.specs.Layout.{axis_count, head_size, node_size, span_size, slot_size, ref_from, zone_from, node_at}
use Rattle.floor.specs.Written.{span_bytes, spans_bytes, slot_bytes, head_bytes, blank, whole, slots_bytes, put_node, put_header}
use Rattle.floor.proofs.Own.{spans_length, slots_length}

module _ (l : List ℕ) (at : ℕ) where
  pub span_laid : (s : Span) → sets (sets l at (i32_bytes s.low)) (at + 4) (i32_bytes s.high) ≡ sets l at (span_bytes s)
  span_laid s = sets_next l at 4 (i32_bytes s.low) (i32_bytes s.high) (length_bytes 4 _)

  pub slot_laid : (s : Slot) → s.zone < 256
      → sets
      (sets
      (sets (sets l at (span_bytes s.bounds.x)) (at + span_size) (span_bytes s.bounds.y))
      (at + ref_from axis_count)
      (le_bytes 4 s.reference))
      (at + zone_from axis_count)
      (le_bytes 4 s.zone)
      ≡ sets l at (slot_bytes s)
  unfolding slot_bytes
  slot_laid s h =
      let spans = spans_bytes s.bounds axis_count in
      let ref = le_bytes 4 s.reference in
      let two = sets_next l at span_size (span_bytes s.bounds.x) (span_bytes s.bounds.y) (spans_length s.bounds 1) in
      let three = sets_next l at (ref_from axis_count) spans ref (spans_length s.bounds axis_count) in
      let long : length (spans ++ ref) ≡ zone_from axis_count = simp (length-append, length_bytes) in
      ap (λ (m : List ℕ). sets (sets m (at + ref_from axis_count) ref) (at + zone_from axis_count) (le_bytes 4 s.zone)) two
      ∙ ap (λ (m : List ℕ). sets m (at + zone_from axis_count) (le_bytes 4 s.zone)) three
      ∙ sets_next l at (zone_from axis_count) (spans ++ ref) (le_bytes 4 s.zone) long
      ∙ ap (λ (z : List ℕ). sets l at (spans ++ ref ++ z)) (byte_alone 3 s.zone h)

  pub head_laid : (level occupied : ℕ)
      → set (set (set (set l at level) (at + 1) occupied) (at + 2) 0) (at + 3) 0 ≡ sets l at (head_bytes level occupied)
  head_laid level occupied =
      let p₁ : at + 1 ≡ suc at = omega arith in
      let p₂ : at + 2 ≡ suc (suc at) = omega arith in
      let p₃ : at + 3 ≡ suc (suc (suc at)) = omega arith in
      rw (p₁, p₂, p₃)

pub header_laid : (l : List ℕ) (count root height : ℕ) → height < 256
    → sets (sets (sets l 0 (le_bytes 2 count)) 2 (le_bytes 2 root)) 4 (le_bytes 4 height) ≡ put_header l count root height
header_laid l count root height h =
    let first = le_bytes 2 count in
    let second = le_bytes 2 root in
    let long : length (first ++ second) ≡ 4 = simp (length-append, length_bytes) in
    ap (λ (m : List ℕ). sets m 4 (le_bytes 4 height)) (sets_next l 0 2 first second (length_bytes 2 count))
    ∙ sets_next l 0 4 (first ++ second) (le_bytes 4 height) long
    ∙ ap (λ (z : List ℕ). sets l 0 (first ++ second ++ z)) (byte_alone 3 height h)

-- within a list it does not matter what stands past its end
within_list : (slots : List Slot) (i : ℕ) (a b : Slot) → i < length slots → get_or slots i a ≡ get_or slots i b
within_list slots i a b h =
    let e = drop-cons slots i a h in
    let f = drop-cons slots i b h in
    cc

-- the first i slots of node n are written
pub record Laying (m now : List ℕ) (n : ℕ) (slots : List Slot) (i : ℕ) : Type 0 where
  pub most : i ≤ 8
  pub few : n < 256
  pub eight : length slots ≡ 8
  pub inside : node_at n + node_size axis_count ≤ length now
  pub is : now ≡ sets m (node_at n + head_size) (slots_bytes slots i)

-- one slot more, as the loop writes it
pub slots_more : (l : List ℕ) (at : ℕ) (slots : List Slot) (i place : ℕ) (past : Slot) (now : List ℕ) {last : List ℕ} → i < length slots
    → place ≡ at + slot_size axis_count * i → now ≡ sets l at (slots_bytes slots i) → last ≡ sets now place (slot_bytes (get_or slots i past))
    → last ≡ sets l at (slots_bytes slots (i + 1))
unfolding slots_bytes
slots_more l at slots i place past now h p before after =
    let new = slot_bytes (get_or slots i blank) in
    rw add-one
    (after
    ∙ ap (λ (s : Slot). sets now place (slot_bytes s)) (within_list slots i past blank h)
    ∙ ap (λ (m : List ℕ). sets m place new) before
    ∙ ap (λ (q : ℕ). sets (sets l at (slots_bytes slots i)) q new) p
    ∙ sets_next l at (slot_size axis_count * i) (slots_bytes slots i) new (slots_length slots i))

-- the head, then the slots
pub node_laid : (m : List ℕ) (n level occupied : ℕ) (slots : List Slot) (i : ℕ) {head last : List ℕ}
    → head ≡ sets m (node_at n) (head_bytes level occupied)
    → i ≡ 8 → last ≡ sets head (node_at n + head_size) (slots_bytes slots i) → last ≡ put_node m n (whole level occupied slots)
node_laid m n level occupied slots i e all f =
    f
    ∙ ap₂ (λ (h : List ℕ) (k : ℕ). sets h (node_at n + head_size) (slots_bytes slots k)) e all
    ∙ sets_next m (node_at n) head_size (head_bytes level occupied) (slots_bytes slots 8) refl
