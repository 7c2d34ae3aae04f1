-- A signed number comes back from its bytes. Assumes nothing.
use mathlib.Core.Path.{◌≡◌, ap, ◌∙◌}
use mathlib.Core.List.{List, ◌++◌}
use Prim.Native.Nat.{ℕ, ◌+◌, ◌≤◌}
use lib.IntN.{ℤ}
use lib.ListN.{length}
use lib.Seq.{sets}
use mir.Facts.{to_z-of_z, Fits-of_z}
use mir.Syntax.{w32}
use mir.Val.{SFits, to_z, of_z}
use Rattle.words.specs.Words.{i32_at, i32_bytes}
use Rattle.words.proofs.Again.{bytes_after, le_again}

-- what was written is what is read
pub signed_again : (z : ℤ) → SFits w32 z → (m : List ℕ) (at : ℕ) → at + 4 ≤ length m → i32_at (sets m at (i32_bytes z)) at ≡ z
signed_again z f m at l = ap (to_z w32) (le_again 4 (of_z w32 z) m at (Fits-of_z f).fits l) ∙ to_z-of_z f

pub signed_after : (z : ℤ) → SFits w32 z → (p rest : List ℕ) (at : ℕ) → length p ≡ at → i32_at (p ++ (i32_bytes z ++ rest)) at ≡ z
signed_after z f p rest at e = ap (to_z w32) (bytes_after 4 (of_z w32 z) p rest at e (Fits-of_z f).fits) ∙ to_z-of_z f
