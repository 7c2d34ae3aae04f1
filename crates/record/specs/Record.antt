-- A record's bytes, what the answer room holds after a page, and what is read out of it. Document 01, 'The question and its
-- reply'.
use Rattle.std.specs.Prelude.{List, [], ◌∷◌, ◌++◌, ℕ, zero, suc, ◌*◌, ◌-◌, length, drop, replicate}
use Rattle.words.specs.Words.{le_at, le_bytes}
use Rattle.record.specs.declared.Record.{Record}

-- how many bytes a record has
abbrev pub record_size : ℕ
record_size = 16

-- bay (4), zone (1), three zero bytes, how far it is (8)
unfoldable pub record_bytes : Record → List ℕ
record_bytes r = le_bytes 4 r.bay ++ (r.zone ∷ 0 ∷ 0 ∷ 0 ∷ []) ++ le_bytes 8 r.far.0

-- what stands where there is no bay: zeros
abbrev pub no_record : Record
no_record = record { bay = 0; zone = 0; far = record { 0 = 0 } }

-- records one after another
unfoldable pub records_of : List Record → List ℕ
records_of [] = []
records_of (r ∷ rs) = record_bytes r ++ records_of rs

-- the room after a page of k: the records from its start, zeros up to k of them, and the rest as it was
unfoldable pub room_with : ℕ → List Record → List ℕ → List ℕ
room_with k rs room =
    records_of rs ++ replicate (record_size * k - record_size * length rs) 0 ++ drop (record_size * k) room

-- what whoever asked reads: the record that some bytes begin with, and the first n
unfoldable pub record_in : List ℕ → Record
record_in bytes = record { bay = le_at 4 bytes 0; zone = le_at 1 bytes 4; far = record { 0 = le_at 8 bytes 8 } }

unfoldable pub records_in : ℕ → List ℕ → List Record
records_in zero bytes = []
records_in (suc n) bytes = record_in bytes ∷ records_in n (drop record_size bytes)
