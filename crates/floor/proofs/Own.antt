-- What is read from the bytes of a header, a head, a slot or a node is what they were made of. Assumes nothing.
use mathlib.Core.Path.{◌≡◌, refl, sym, ap, ◌∙◌}
use mathlib.Core.Bool.{true}
use mathlib.Core.List.{List, ◌∷◌, ◌++◌, append_assoc}
use Prim.Native.Nat.{ℕ, zero, suc, ◌+◌, ◌*◌, ◌^◌, ◌<◌}
use native.Mathlib.Decide.{ℕ_discrete}
use native.Mathlib.Nat.{zero-add}
use native.Mathlib.Omega.{arith}
use lib.Dec.{eqb}
use lib.ListN.{length, get_or, replicate, length-append}
use Rattle.words.specs.Words.{le_at, le_bytes, i32_at, i32_bytes}
use Rattle.words.proofs.Stores.{length_bytes}
use Rattle.words.proofs.Again.{le_before, le_after, bytes_after}
use Rattle.words.proofs.Signs.{signed_after}
use Rattle.measure.specs.declared.Bounds.{Bounds}
use Rattle.measure.specs.declared.Span.{Span}
use Rattle.measure.proofs.Range.{Ends}
use Rattle.floor.specs.declared.Slot.{Slot}
use Rattle.floor.specs.Layout.{axis_count, head_size, node_size, slot_size, span_from, ref_from, zone_from, zeros_from}
use Rattle.floor.specs.View.{span_at, slot_span, span_on}
use Rattle.floor.specs.Written.{span_bytes, spans_bytes, slot_bytes, head_bytes, blank, Whole, slots_bytes, node_bytes, header_bytes}
use Rattle.floor.proofs.Fields.{header_from, head_from, slot_from, SameBytes}

-- what fits the bytes of a slot, of a node, and of a header
pub record SlotFits (s : Slot) : Type 0 where
  pub spans : (a : ℕ) → a < axis_count → Ends (span_on s.bounds a)
  pub reference : s.reference < 2 ^ 32
  pub zone : s.zone < 256
  pub clear : s.clear ≡ true

pub record NodeFits (h : Whole) : Type 0 where
  pub level : h.level < 256
  pub occupied : h.occupied < 256
  pub slots : (i : ℕ) → i < 8 → SlotFits (get_or h.slots i blank)

pub record HeaderFits (n root height : ℕ) : Type 0 where
  pub few : n < 2 ^ 16
  pub rooted : root < 2 ^ 16
  pub low : height < 256

-- ---- how long they are

pub spans_length : (b : Bounds) (n : ℕ) → length (spans_bytes b n) ≡ span_from n
spans_length b zero = refl
spans_length b (suc n) = simp (length-append, length_bytes) (omega (arith, spans_length b n))

pub slot_length : (s : Slot) → length (slot_bytes s) ≡ slot_size axis_count
unfolding slot_bytes le_bytes
slot_length s = refl

pub slots_length : (slots : List Slot) (n : ℕ) → length (slots_bytes slots n) ≡ slot_size axis_count * n
unfolding slots_bytes
slots_length slots zero = refl
slots_length slots (suc n) = simp (length-append, slot_length) (omega (arith, slots_length slots n))

pub node_length : (h : Whole) → length (node_bytes h) ≡ node_size axis_count
node_length h = omega (arith, slots_length h.slots 8)

pub header_length : (count root height : ℕ) → length (header_bytes count root height) ≡ 8
unfolding le_bytes
header_length count root height = refl

-- ---- a slot

span_after : (p rest : List ℕ) (at : ℕ) → length p ≡ at → (s : Span) → Ends s → span_at (p ++ (span_bytes s ++ rest)) at ≡ s
span_after p rest at e s f =
    let first = i32_bytes s.low in
    let second = i32_bytes s.high in
    let whole : p ++ (first ++ second ++ rest) ≡ p ++ (first ++ (second ++ rest)) =
    ap (λ (l : List ℕ). p ++ l) (append_assoc first second rest) in
    let high = signed_after s.high f.high (p ++ first) rest (at + 4) (simp (length-append, length_bytes, e)) in
    let one = ap (λ (l : List ℕ). i32_at l at) whole ∙ signed_after s.low f.low p (second ++ rest) at e in
    let two = ap (λ (l : List ℕ). i32_at l (at + 4)) (whole ∙ sym (append_assoc p first (second ++ rest))) ∙ high in
    λ i. record { low = one i; high = two i }

spans_own : (b : Bounds) (n : ℕ) (rest : List ℕ) (a : ℕ) → a < n → Ends (span_on b a)
    → span_at (spans_bytes b n ++ rest) (span_from a) ≡ span_on b a
spans_own b zero rest a h f = absurd (omega arith)
spans_own b (suc n) rest a h f =
    rw (append_assoc (spans_bytes b n) (span_bytes (span_on b n)) rest)
    (elim (ℕ_discrete a n) [
      | yes q ↦ rw q (span_after (spans_bytes b n) rest (span_from n) (spans_length b n) (span_on b n) (rw q at f))
      | no d ↦ spans_own b n (span_bytes (span_on b n) ++ rest) a (omega arith) f
    ])

abbrev last_bytes : Slot → List ℕ
last_bytes s = le_bytes 4 s.reference ++ (s.zone ∷ replicate 3 0)

slot_parts : (s : Slot) → slot_bytes s ≡ spans_bytes s.bounds axis_count ++ last_bytes s
unfolding slot_bytes
slot_parts s = append_assoc (spans_bytes s.bounds axis_count) (le_bytes 4 s.reference) (s.zone ∷ replicate 3 0)

module _ (s : Slot) (f : SlotFits s) where
  own_span : (a : ℕ) → a < axis_count → slot_span (slot_bytes s) 0 a ≡ span_on s.bounds a
  own_span a h =
      rw (zero-add (span_from a))
      (ap (λ (l : List ℕ). span_at l (span_from a)) (slot_parts s) ∙ spans_own s.bounds axis_count (last_bytes s) a h (f.spans a h))

  own_ref : le_at 4 (slot_bytes s) (ref_from axis_count) ≡ s.reference
  own_ref =
      ap (λ (l : List ℕ). le_at 4 l (ref_from axis_count)) (slot_parts s)
      ∙ bytes_after 4 s.reference (spans_bytes s.bounds axis_count) (s.zone ∷ replicate 3 0) (ref_from axis_count)
      (spans_length s.bounds axis_count) f.reference

  own_zone : (le_at 1 (slot_bytes s) (zone_from axis_count) ≡ s.zone) × (le_at 3 (slot_bytes s) (zeros_from axis_count) ≡ 0)
  unfolding slot_bytes le_bytes le_at
  own_zone = (omega arith, refl)

  pub slot_own : slot_from (slot_bytes s) 0 ≡ s
  slot_own =
      let x = own_span 0 (omega arith) in
      let y = own_span 1 (omega arith) in
      let ref = own_ref in
      let zone = own_zone.0 in
      let clear = ap (λ (z : ℕ). eqb z 0) own_zone.1 ∙ sym f.clear in
      λ i. record { bounds = record { x = x i; y = y i }; reference = ref i; zone = zone i; clear = clear i }

-- ---- a node

pub head_own : (level occupied : ℕ) (rest : List ℕ)
    → head_from (head_bytes level occupied ++ rest) 0 ≡ record { level = level; occupied = occupied; clear = true }
unfolding le_at
head_own level occupied rest =
    let first : level + 256 * 0 ≡ level = omega arith in
    let second : occupied + 256 * 0 ≡ occupied = omega arith in
    λ i. record { level = first i; occupied = second i; clear = true }

slots_agree : (slots : List Slot) (n i : ℕ) → i < n
    → SameBytes (slot_size axis_count) (slots_bytes slots n) (slot_size axis_count * i) (slot_bytes (get_or slots i blank)) 0
unfolding slots_bytes
slots_agree slots zero i h k d l = absurd (omega arith)
slots_agree slots (suc n) i h k d l =
    let long = slots_length slots n in
    elim (ℕ_discrete i n) [
      | yes q ↦
          let e : slot_size axis_count * n + d ≡ length (slots_bytes slots n) + d = omega arith in
          rw (q, e, le_after k d (slots_bytes slots n) (slot_bytes (get_or slots n blank)), zero-add d)
      | no r ↦
          le_before k (slot_size axis_count * i + d) (slots_bytes slots n) (slot_bytes (get_or slots n blank)) (omega arith)
          ∙ slots_agree slots n i (omega arith) k d l
    ]

-- slot i of a node's bytes
pub node_agree : (h : Whole) (i : ℕ) → i < 8
    → SameBytes (slot_size axis_count) (node_bytes h) (head_size + slot_size axis_count * i) (slot_bytes (get_or h.slots i blank)) 0
node_agree h i less k d l =
    let e : head_size + slot_size axis_count * i + d ≡ 4 + (slot_size axis_count * i + d) = omega arith in
    rw e (le_after k (slot_size axis_count * i + d) (head_bytes h.level h.occupied) (slots_bytes h.slots 8)
    ∙ slots_agree h.slots 8 i less k d l)

-- ---- a header

pub header_own : (count root height : ℕ) → HeaderFits count root height
    → header_from (header_bytes count root height) ≡ record { count = count; root = root; height = height; clear = true }
unfolding le_at le_bytes
header_own count root height f =
    let c = f.few in
    let r = f.rooted in
    let first : le_at 2 (header_bytes count root height) 0 ≡ count = omega arith in
    let second : le_at 2 (header_bytes count root height) 2 ≡ root = omega arith in
    let third : le_at 1 (header_bytes count root height) 4 ≡ height = omega arith in
    λ i. record { count = first i; root = second i; height = third i; clear = true }
