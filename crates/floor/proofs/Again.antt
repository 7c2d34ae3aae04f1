-- What was written is what is read, and nothing else is touched: a slot, a whole node, the header. Assumes nothing.
use mathlib.Core.Path.{◌≡◌, refl, sym, ap, ◌∙◌}
use mathlib.Core.Logic.{◌⊎◌, inl, inr, ⊎_elim}
use mathlib.Core.List.{List}
use Prim.Native.Nat.{ℕ, ◌+◌, ◌*◌, ◌/◌, ◌%◌, ◌≤◌}
use native.Mathlib.Decide.{ℕ_discrete}
use native.Mathlib.Omega.{arith}
use lib.ListN.{length, get_or}
use lib.Seq.{sets, length-sets}
use Rattle.numbers.proofs.Below.{ordered}
use Rattle.words.proofs.Again.{le_beside, le_within}
use Rattle.floor.specs.declared.Header.{Header}
use Rattle.floor.specs.declared.Node.{Node}
use Rattle.floor.specs.declared.Slot.{Slot}
use Rattle.floor.specs.Layout.{axis_count, header_size, head_size, node_size, slot_size, node_at, slot_at, map_size}
use Rattle.floor.specs.View.{View, view_of, slot_of}
use Rattle.floor.specs.Written.{slot_bytes, blank, Whole, node_bytes, header_bytes, put_slot, put_node, put_header}
use Rattle.floor.specs.Edits.{with_node, with_header, SameView}
use Rattle.floor.proofs.Fields.{header_of, head_of, SameBytes, header_same, head_same, slot_same}
use Rattle.floor.proofs.Own.{SlotFits, NodeFits, HeaderFits, slot_length, node_length, header_length, slot_own, head_own, node_agree, header_own}
use Rattle.floor.proofs.Edits.{head_written, with_header_lem, with_size, head_here, head_there, slot_here, slot_there}

-- ---- any run of stores

module _ (bs m : List ℕ) (at : ℕ) where
  -- bytes that lie apart from it
  apart : (size p : ℕ) → (p + size ≤ at) ⊎ (at + length bs ≤ p) → SameBytes size (sets m at bs) p m p
  apart size p h k d l = le_beside bs m at k (p + d) (⊎_elim (λ a. inl (omega arith)) (λ a. inr (omega arith)) h)

  -- bytes that lie within it, from e on
  within : (size p e : ℕ) → p ≡ at + e → e + size ≤ length bs → at + length bs ≤ length m → SameBytes size (sets m at bs) p bs e
  within size p e q h fits k d l =
      let place : p + d ≡ at + (e + d) = omega arith in
      rw place (le_within bs m at k (e + d) (omega arith) fits)

  -- what the view shows of what lies apart is as it was
  header_kept : header_size ≤ at → header_of (view_of (sets m at bs)) ≡ header_of (view_of m)
  unfolding view_of
  header_kept h = header_same (sets m at bs) m (apart header_size 0 (inl (omega arith)))

  head_kept : (n : ℕ) → (node_at n + head_size ≤ at) ⊎ (at + length bs ≤ node_at n)
      → head_of (view_of (sets m at bs)) n ≡ head_of (view_of m) n
  unfolding view_of
  head_kept n h = head_same (sets m at bs) (node_at n) m (node_at n) (apart head_size (node_at n) h)

  slot_kept : (j : ℕ) → (slot_at j + slot_size axis_count ≤ at) ⊎ (at + length bs ≤ slot_at j)
      → slot_of (view_of (sets m at bs)) j ≡ slot_of (view_of m) j
  unfolding view_of
  slot_kept j h = slot_same (sets m at bs) (slot_at j) m (slot_at j) (apart (slot_size axis_count) (slot_at j) h)

  size_kept : (view_of (sets m at bs)).size ≡ (view_of m).size
  unfolding view_of
  size_kept = length-sets m at bs

-- ---- slot j written anew

module _ (m : List ℕ) (j : ℕ) (s : Slot) where
  pub slot_again : SlotFits s → slot_at j + slot_size axis_count ≤ length m → slot_of (view_of (put_slot m j s)) j ≡ s
  unfolding view_of
  slot_again f h =
      let long = slot_length s in
      slot_same (put_slot m j s) (slot_at j) (slot_bytes s) 0
      (within (slot_bytes s) m (slot_at j) (slot_size axis_count) (slot_at j) 0 (omega arith) (omega arith) (omega arith))
      ∙ slot_own s f

  pub slot_else : (i : ℕ) → (i ≡ j → ⊥) → slot_of (view_of (put_slot m j s)) i ≡ slot_of (view_of m) i
  slot_else i d =
      let long = slot_length s in
      slot_kept (slot_bytes s) m (slot_at j) i
      (⊎_elim (λ a. inl (omega arith)) (⊎_elim (λ a. absurd (d a)) (λ a. inr (omega arith))) (ordered i j))

  pub slot_heads : (n : ℕ) → head_of (view_of (put_slot m j s)) n ≡ head_of (view_of m) n
  slot_heads n =
      let long = slot_length s in
      head_kept (slot_bytes s) m (slot_at j) n
      (⊎_elim (λ a. inl (omega arith)) (⊎_elim (λ a. inl (omega arith)) (λ a. inr (omega arith))) (ordered n (j / 8)))

  pub slot_header : header_of (view_of (put_slot m j s)) ≡ header_of (view_of m)
  slot_header = header_kept (slot_bytes s) m (slot_at j) (omega arith)

  pub slot_size_lem : (view_of (put_slot m j s)).size ≡ (view_of m).size
  slot_size_lem = size_kept (slot_bytes s) m (slot_at j)

-- ---- alike by parts

alike_by : (v w : View) → v.size ≡ w.size → header_of v ≡ header_of w → ((n : ℕ) → head_of v n ≡ head_of w n)
    → ((j : ℕ) → slot_of v j ≡ slot_of w j) → SameView v w
alike_by v w size header head slot =
    record {
      size = size;
      count = ap (λ (h : Header). h.count) header;
      root = ap (λ (h : Header). h.root) header;
      height = ap (λ (h : Header). h.height) header;
      clear = ap (λ (h : Header). h.clear) header;
      level = λ n. ap (λ (h : Node). h.level) (head n);
      occupied = λ n. ap (λ (h : Node). h.occupied) (head n);
      node_clear = λ n. ap (λ (h : Node). h.clear) (head n);
      slot = slot;
    }

-- ---- node n written anew

module _ (m : List ℕ) (n : ℕ) (h : Whole) (f : NodeFits h) (fits : node_at n + node_size axis_count ≤ length m) where
  node_head : (k : ℕ) → k ≡ n → head_of (view_of (put_node m n h)) k ≡ head_written h
  unfolding view_of
  node_head k e =
      let long = node_length h in
      head_same (put_node m n h) (node_at k) (node_bytes h) 0
      (within (node_bytes h) m (node_at n) head_size (node_at k) 0 (omega arith) (omega arith) (omega arith))
      ∙ head_own h.level h.occupied _

  node_slot : (j : ℕ) → j / 8 ≡ n → slot_of (view_of (put_node m n h)) j ≡ get_or h.slots (j % 8) blank
  unfolding view_of
  node_slot j e =
      let long = node_length h in
      let place = head_size + slot_size axis_count * (j % 8) in
      let part = within (node_bytes h) m (node_at n) (slot_size axis_count) (slot_at j) place (omega arith) (omega arith) (omega arith) in
      slot_same (put_node m n h) (slot_at j) (slot_bytes (get_or h.slots (j % 8) blank)) 0
      (λ k d l. part k d l ∙ node_agree h (j % 8) (omega arith) k d l)
      ∙ slot_own (get_or h.slots (j % 8) blank) (f.slots (j % 8) (omega arith))

  -- the bytes of a node written anew show the view with the node written anew
  pub node_again : SameView (view_of (put_node m n h)) (with_node (view_of m) n h)
  node_again =
      let v = view_of m in
      let long = node_length h in
      alike_by (view_of (put_node m n h)) (with_node v n h)
      (size_kept (node_bytes h) m (node_at n) ∙ sym (with_size v n h))
      (header_kept (node_bytes h) m (node_at n) (omega arith) ∙ sym (with_header_lem v n h))
      (λ k.
      elim (ℕ_discrete k n) [
        | yes q ↦ node_head k q ∙ sym (head_here v n h k q)
        | no d ↦
            head_kept (node_bytes h) m (node_at n) k
            (⊎_elim (λ a. inl (omega arith)) (⊎_elim (λ a. absurd (d a)) (λ a. inr (omega arith))) (ordered k n))
            ∙ sym (head_there v n h k d)
      ])
      (λ j.
      elim (ℕ_discrete (j / 8) n) [
        | yes q ↦ node_slot j q ∙ sym (slot_here v n h j q)
        | no d ↦
            slot_kept (node_bytes h) m (node_at n) j
            (⊎_elim (λ a. inl (omega arith)) (⊎_elim (λ a. absurd (d a)) (λ a. inr (omega arith))) (ordered (j / 8) n))
            ∙ sym (slot_there v n h j d)
      ])

-- ---- the header written anew

module _ (m : List ℕ) (count root height : ℕ) (f : HeaderFits count root height) (fits : length m ≡ map_size count) where
  pub header_again : SameView (view_of (put_header m count root height)) (with_header (view_of m) count root height)
  unfolding view_of with_header
  header_again =
      let bs = header_bytes count root height in
      let long = header_length count root height in
      alike_by (view_of (put_header m count root height)) (with_header (view_of m) count root height)
      (length-sets m 0 bs ∙ fits)
      (header_same (put_header m count root height) bs
      (within bs m 0 header_size 0 0 refl (omega arith) (omega arith))
      ∙ header_own count root height f)
      (λ n. head_kept bs m 0 n (inr (omega arith)))
      (λ j. slot_kept bs m 0 j (inr (omega arith)))
