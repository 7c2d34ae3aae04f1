-- A key, a number and the byte that ends it make a field: what is read of it, and that the code reads just that.
-- Assumes nothing.
use mathlib.Core.Path.{◌≡◌, sym, ap, ◌∙◌}
use mathlib.Core.List.{List, [], ◌∷◌, ◌++◌}
use mathlib.Core.Bool.{true, false, false≢true}
use Prim.Native.Nat.{ℕ}
use lib.ListN.{length, drop}
use lib.Seq.{drop-append_seam}
use Rattle.std.proofs.Common.{Some, None}
use Rattle.std.proofs.lemmas.Bool.{cond_both}
use Rattle.reader.specs.declared.number.Signed.{Signed}
use Rattle.reader.specs.declared.number.State.TheVariants.{Empty}
use Rattle.reader.specs.Fields.{Number, numeral, InLimits, stop_byte, Field, field_then}
use Rattle.reader.specs.Scan.{Scan, scan}
use Rattle.reader.specs.Chain.{starts_with, Taken, FieldRead, field_in}
use Rattle.reader.proofs.Keys.{starts_complete, starts_sound}
use Rattle.reader.proofs.Numerals.{Sound, scan_sound, scan_complete}

module _ (f : Field) where
  taken_of : (text t : List ℕ) (n : Number) (rest : List ℕ) → text ≡ f.key ++ t → Sound f.limits f.stop t n rest → Taken f text n rest
  unfolding field_then
  taken_of text t None rest e s = tt
  taken_of text t (Some n) rest e s = (e ∙ ap (λ (l : List ℕ). f.key ++ l) s.0, s.1)

  -- a number's text, and the rest behind its field
  abbrev ended : Number → List ℕ → List ℕ
  ended n rest = numeral n ++ (stop_byte f.stop ∷ rest)

  module _ (text : List ℕ) where
    field_off : starts_with f.key text ≡ false → (s : List ℕ) → FieldRead f text (record { number = None; rest = s })
    unfolding field_then
    field_off off s = record {
      sound = tt;
      complete = λ n rest w e. absurd (false≢true (sym off ∙ ap (starts_with f.key) e ∙ starts_complete f.key (ended n rest)));
    }

    field_on : starts_with f.key text ≡ true → FieldRead f text (scan f.limits f.stop Empty (drop (length f.key) text))
    unfolding field_then
    field_on on =
        let w = drop (length f.key) text in
        let r = scan f.limits f.stop Empty w in
        record {
          sound = taken_of text w r.number r.rest (starts_sound f.key text on) (scan_sound f.limits f.stop w Empty tt);
          complete = λ n rest v e.
              let q : w ≡ ended n rest = ap (drop (length f.key)) e ∙ drop-append_seam f.key (ended n rest) in
              let s : r ≡ record { number = n; rest = rest } = ap (scan f.limits f.stop Empty) q ∙ scan_complete f.limits f.stop n rest v in
              (ap (λ (z : Scan). z.number) s, ap (λ (z : Scan). z.rest) s);
        }

    pub field_in_lem : FieldRead f text (field_in f text)
    unfolding field_in
    field_in_lem =
        cond_both (starts_with f.key text) (scan f.limits f.stop Empty (drop (length f.key) text)) (record { number = None; rest = [] })
        (FieldRead f text) field_on (λ e. field_off e [])

-- what is read as a number is within the field's limits
pub field_within : (f : Field) (text : List ℕ) (n : Signed) → (field_in f text).number ≡ Some n → InLimits f.limits (Some n)
field_within f text n e = (rw e at (field_in_lem f text).sound).1
