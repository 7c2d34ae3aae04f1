-- How long a record is, that no record is all zero bytes, that records with equal bytes are one, and that the stores of the
-- code are the bytes. Assumes nothing.
use mathlib.Core.Path.{◌≡◌, refl, ap}
use mathlib.Core.List.{List}
use Prim.Native.Nat.{ℕ, ◌+◌, ◌^◌, ◌<◌}
use native.Mathlib.Omega.{arith}
use lib.ListN.{length, replicate, get_or, take, drop, length-append}
use lib.Seq.{sets}
use Rattle.words.specs.Words.{le_bytes}
use Rattle.words.proofs.Stores.{sets_append, length_bytes, byte_alone, bytes_back}
use Rattle.record.specs.declared.Record.{Record}
use Rattle.record.specs.Record.{record_size, record_bytes, no_record}

pub length_record : (r : Record) → length (record_bytes r) ≡ record_size
unfolding le_bytes record_bytes
length_record r = refl

pub no_record_lem : record_bytes no_record ≡ replicate record_size 0
unfolding le_bytes record_bytes
no_record_lem = refl

-- a record whose numbers have room in its bytes
pub record Small (r : Record) : Type 0 where
  pub bay : r.bay < 2 ^ 32
  pub zone : r.zone < 256
  pub far : r.far.0 < 2 ^ 64

-- a room tells its records apart
pub record_back : (r s : Record) → Small r → Small s → record_bytes r ≡ record_bytes s → r ≡ s
unfolding le_bytes record_bytes
record_back r s small also same =
    let bay = bytes_back 4 r.bay s.bay small.bay also.bay (ap (take 4) same) in
    let zone : r.zone ≡ s.zone = ap (λ (bytes : List ℕ). get_or bytes 4 0) same in
    let far = bytes_back 8 r.far.0 s.far.0 small.far also.far (ap (drop 8) same) in
    λ i. record { bay = bay i; zone = zone i; far = record { 0 = far i } }

pub record_laid : (l : List ℕ) (at : ℕ) (r : Record) (zone : ℕ) → zone ≡ r.zone → r.zone < 256
    → sets (sets (sets l at (le_bytes 4 r.bay)) (at + 4) (le_bytes 4 zone)) (at + 8) (le_bytes 8 r.far.0) ≡ sets l at (record_bytes r)
unfolding record_bytes
record_laid l at r zone e h =
    let p₈ : at + 8 ≡ at + 4 + 4 = omega arith in
    rw (e, byte_alone 3 r.zone h) (simp (sets_append, length-append, length_bytes, p₈))
