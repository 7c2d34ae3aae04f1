-- What `starts_with` says. Assumes nothing.
use mathlib.Core.Path.{◌≡◌, ap, sym, ◌∙◌}
use mathlib.Core.List.{List, ◌++◌}
use mathlib.Core.Bool.{true}
use Prim.Native.Nat.{ℕ}
use lib.ListN.{length, take, drop, take-append-drop}
use lib.Seq.{take-append_seam}
use lib.Pointwise.{bytes_decides}
use Rattle.reader.specs.Chain.{starts_with}

pub starts_complete : (key rest : List ℕ) → starts_with key (key ++ rest) ≡ true
starts_complete key rest = (bytes_decides (take (length key) (key ++ rest)) key).1 (take-append_seam key rest)

pub starts_sound : (key text : List ℕ) → starts_with key text ≡ true → text ≡ key ++ drop (length key) text
starts_sound key text e =
    sym (take-append-drop (length key) text) ∙ ap (λ (l : List ℕ). l ++ drop (length key) text) ((bytes_decides (take (length key) text) key).0 e)
