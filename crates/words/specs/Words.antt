-- Little-endian numbers in a list of bytes, at every width: as they are read, and as they are written.
use Rattle.std.specs.Prelude.{List, [], ◌∷◌, ℕ, zero, suc, ◌+◌, ◌*◌, ◌/◌, ◌%◌, ◌<◌, get_or, ℤ}
use Rattle.std.specs.Int.{w32}
use Rattle.std.proofs.Common.{to_z, of_z}

-- the number in k bytes from a place on
unfoldable pub le_at : ℕ → List ℕ → ℕ → ℕ
le_at zero m at = 0
le_at (suc k) m at = get_or m at 0 + 256 * le_at k m (at + 1)

-- the low k bytes of a number
unfoldable pub le_bytes : ℕ → ℕ → List ℕ
le_bytes zero n = []
le_bytes (suc k) n = n % 256 ∷ le_bytes k (n / 256)

-- four bytes in two's complement
abbrev pub i32_at : List ℕ → ℕ → ℤ
i32_at m at = to_z w32 (le_at 4 m at)

abbrev pub i32_bytes : ℤ → List ℕ
i32_bytes z = le_bytes 4 (of_z w32 z)

-- every number of a list is a byte
abbrev pub Bytes : List ℕ → Type 0
Bytes l = (i : ℕ) → get_or l i 0 < 256
