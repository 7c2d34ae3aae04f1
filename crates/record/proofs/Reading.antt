-- What was written is what is read: a record, and a room full of records; and a record by the places of its numbers.
-- Assumes nothing.
use Prim.Native.Nat.{ℕ, zero, suc, ◌+◌, ◌*◌, ◌-◌}
use native.Mathlib.Nat.{add-zero}
use native.Mathlib.Omega.{arith}
use mathlib.Core.Path.{◌≡◌, refl, ap, ap₂, ◌∙◌}
use mathlib.Core.List.{List, [], ◌∷◌, ◌++◌, append_assoc, Memᴰ}
use lib.ListN.{length, get_or, drop, replicate}
use lib.Seq.{drop-drop}
use Rattle.words.specs.Words.{le_at, le_bytes}
use Rattle.words.proofs.Reading.{le_byte, le_drop}
use Rattle.words.proofs.Again.{bytes_again}
use Rattle.record.specs.declared.Record.{Record}
use Rattle.record.specs.Record.{record_size, record_bytes, records_of, room_with, record_in, records_in}
use Rattle.record.proofs.Bytes.{Small}

record_read : (r : Record) (rest : List ℕ) → Small r → record_in (record_bytes r ++ rest) ≡ r
unfolding record_in record_bytes le_bytes le_at
record_read r rest s =
    let is_bay = bytes_again 4 r.bay (drop 4 (record_bytes r ++ rest)) s.bay in
    let is_zone : le_at 1 (record_bytes r ++ rest) 4 ≡ r.zone = omega arith in
    let is_far = le_drop 8 8 0 (record_bytes r ++ rest) ∙ bytes_again 8 r.far.0 rest s.far in
    λ i. record { bay = is_bay i; zone = is_zone i; far = record { 0 = is_far i } }

drop_record : (r : Record) (rest : List ℕ) → drop record_size (record_bytes r ++ rest) ≡ rest
unfolding record_bytes le_bytes
drop_record r rest = refl

records_read : (rs : List Record) (rest : List ℕ) → ((r : Record) → Memᴰ r rs → Small r) → records_in (length rs) (records_of rs ++ rest) ≡ rs
unfolding records_in records_of
records_read [] rest h = refl
records_read (r ∷ rs) rest h =
    rw (append_assoc (record_bytes r) (records_of rs) rest, drop_record r (records_of rs ++ rest))
    (ap₂ {C = List Record} (λ x l. x ∷ l) (record_read r (records_of rs ++ rest) (h r (Memᴰ.head refl)))
    (records_read rs rest (λ x n. h x (Memᴰ.tail n))))

pub room_read : (k : ℕ) (rs : List Record) (room : List ℕ) → ((r : Record) → Memᴰ r rs → Small r)
    → records_in (length rs) (room_with k rs room) ≡ rs
unfolding room_with
room_read k rs room h =
    rw (append_assoc (records_of rs) (replicate (record_size * k - record_size * length rs) 0) (drop (record_size * k) room))
    (records_read rs (replicate (record_size * k - record_size * length rs) 0 ++ drop (record_size * k) room) h)

-- a record by the places of its numbers
pub record_in_lem : (l : List ℕ) (at bay zone far : ℕ) → bay ≡ le_at 4 l at → zone ≡ get_or l (at + 4) 0 → far ≡ le_at 8 l (at + 8)
    → ◌≡◌ {A = Record} (record { bay = bay; zone = zone; far = record { 0 = far } }) (record_in (drop at l))
unfolding record_in
record_in_lem l at bay zone far b z f =
    let is_bay : bay ≡ le_at 4 (drop at l) 0 = rw (le_drop 4 at 0 l, add-zero at) b in
    let is_zone : zone ≡ le_at 1 (drop at l) 4 = rw (le_drop 1 at 4 l, le_byte l (at + 4)) z in
    let is_far : far ≡ le_at 8 (drop at l) 8 = rw (le_drop 8 at 8 l) f in
    λ i. record { bay = is_bay i; zone = is_zone i; far = record { 0 = is_far i } }

-- one record more is the record after those that were read
pub records_next : (n : ℕ) (l : List ℕ) → records_in (suc n) l ≡ records_in n l ++ (record_in (drop (record_size * n) l) ∷ [])
unfolding records_in
records_next zero l = refl
records_next (suc n) l =
    let apart : record_size * suc n ≡ record_size + record_size * n = omega arith in
    rw (apart, ← drop-drop (record_size * n) record_size l) (ap (λ (es : List Record). record_in l ∷ es) (records_next n (drop record_size l)))

pub length_read : (n : ℕ) (l : List ℕ) → length (records_in n l) ≡ n
unfolding records_in
length_read zero l = refl
length_read (suc n) l = ap suc (length_read n (drop record_size l))
