-- A page goes into the answer room record by record, from the front: what the room holds after each. Assumes nothing.
use mathlib.Core.Path.{◌≡◌, refl, ◌∙◌}
use mathlib.Core.List.{List, [], ◌∷◌, ◌++◌, append_assoc, append-nil}
use Prim.Native.Nat.{ℕ, ◌+◌, ◌*◌, ◌-◌, ◌<◌, ◌≤◌}
use native.Mathlib.Numerals.{add-one}
use native.Mathlib.Omega.{arith}
use lib.ListN.{length, get_or, take, drop, replicate, length-append, length-drop, length-take, length-replicate, replicate-append-replicate}
use lib.Seq.{sets, take-suc, take_all, length-take-le}
use Rattle.words.proofs.Stores.{laid_next}
use Rattle.record.specs.declared.Record.{Record}
use Rattle.record.specs.Record.{record_size, record_bytes, no_record, records_of, room_with}
use Rattle.record.proofs.Bytes.{length_record, no_record_lem}

length_records : (es : List Record) → length (records_of es) ≡ record_size * length es
unfolding records_of
length_records [] = refl
length_records (e ∷ es) = simp (length-append, length_record) (omega (arith, length_records es))

records_more : (es : List Record) (e : Record) → records_of (es ++ (e ∷ [])) ≡ records_of es ++ record_bytes e
unfolding records_of
records_more [] e = append-nil (record_bytes e)
records_more (x ∷ es) e = rw (records_more es e, append_assoc)

-- the room's front, i records long: those of the bays, and zeros
abbrev front : ℕ → List Record → List ℕ
front i es = records_of es ++ replicate (record_size * i - record_size * length es) 0

length_front : (i : ℕ) (es : List Record) → length es ≤ i → length (front i es) ≡ record_size * i
length_front i es h = simp (length-append, length_records, length-replicate) (omega arith)

-- one bay more, where the bays fill the front
front_bay : (i : ℕ) (es : List Record) (e : Record) → length es ≡ i → front i es ++ record_bytes e ≡ front (i + 1) (es ++ (e ∷ []))
front_bay i es e h =
    let none : record_size * i - record_size * length es ≡ 0 = omega arith in
    let still : record_size * (i + 1) - record_size * length (es ++ (e ∷ [])) ≡ 0 = simp length-append (omega arith) in
    simp (none, still, append-nil, records_more)

-- no bay more: the zeros go on
front_none : (i : ℕ) (es : List Record) → length es ≤ i → front i es ++ record_bytes no_record ≡ front (i + 1) es
front_none i es h =
    let more : record_size * (i + 1) - record_size * length es ≡ record_size * i - record_size * length es + record_size = omega arith in
    rw (no_record_lem, append_assoc, replicate-append-replicate, more)

-- a record is put right after what is there
record_put : (p bs room : List ℕ) (i : ℕ) → length p ≡ record_size * i → length bs ≡ record_size → record_size * (i + 1) ≤ length room
    → sets (p ++ drop (record_size * i) room) (record_size * i) bs ≡ (p ++ bs) ++ drop (record_size * (i + 1)) room
record_put p bs room i long b fits =
    let next : record_size * (i + 1) ≡ length p + length bs = omega arith in
    rw (next, ← long) (laid_next p bs room (omega arith))

module _ (es : List Record) (room : List ℕ) where
  -- the room after the first i records
  abbrev pub room_after : ℕ → List ℕ
  room_after i = room_with i (take i es) room

  pub after_none : room ≡ room_after 0
  unfolding room_with records_of
  after_none = refl

  pub after_bay : (i : ℕ) (d : Record) → i < length es → record_size * (i + 1) ≤ length room
      → sets (room_after i) (record_size * i) (record_bytes (get_or es i d)) ≡ room_after (i + 1)
  unfolding room_with
  after_bay i d h fits =
      let e = get_or es i d in
      let long : length (take i es) ≡ i = length-take-le i es (omega arith) in
      let more : take (i + 1) es ≡ take i es ++ (e ∷ []) = rw add-one (take-suc es i d h) in
      record_put (front i (take i es)) (record_bytes e) room i (length_front i (take i es) (omega arith)) (length_record e) fits
      ∙ rw (more, front_bay i (take i es) e long)

  pub after_zeros : (i : ℕ) → length es ≤ i → record_size * (i + 1) ≤ length room
      → sets (room_after i) (record_size * i) (record_bytes no_record) ≡ room_after (i + 1)
  unfolding room_with
  after_zeros i h fits =
      let all : take i es ≡ es = take_all i es h in
      let still : take (i + 1) es ≡ es = take_all (i + 1) es (omega arith) in
      rw (all, still)
      (record_put (front i es) (record_bytes no_record) room i (length_front i es h) (length_record no_record) fits ∙ rw (front_none i es h))

  pub after_all : (k : ℕ) → length es ≤ k → room_after k ≡ room_with k es room
  after_all k h = rw (take_all k es h)

  -- the room is as long as before
  pub length_after : (i : ℕ) → record_size * i ≤ length room → length (room_after i) ≡ length room
  unfolding room_with
  length_after i fits =
      let long = length_front i (take i es) (omega (arith, length-take i es)) in
      simp (length-append, length-drop) (omega (arith, simp length-append at long))
