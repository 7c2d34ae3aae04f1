-- Lines one after another. Assumes nothing.
use mathlib.Core.Path.{◌≡◌, refl, sym, ap, ◌∙◌}
use mathlib.Core.List.{List, [], ◌∷◌, ◌++◌, append_assoc, append-nil}
use Prim.Native.Nat.{ℕ, ◌+◌, ◌*◌}
use native.Mathlib.Numerals.{add-one}
use lib.ListN.{drop}
use Rattle.record.specs.declared.Record.{Record}
use Rattle.record.specs.Record.{record_size, record_in, records_in}
use Rattle.record.proofs.Reading.{records_next}
use Rattle.printer.specs.Printed.{record_line, record_lines}

lines_snoc : (rs : List Record) (r : Record) → record_lines (rs ++ (r ∷ [])) ≡ record_lines rs ++ record_line r
unfolding record_lines
lines_snoc [] r = append-nil (record_line r)
lines_snoc (x ∷ rs) r =
    ap (λ (l : List ℕ). record_line x ++ l) (lines_snoc rs r) ∙ sym (append_assoc (record_line x) (record_lines rs) (record_line r))

pub lines_next : (n : ℕ) (l : List ℕ)
    → record_lines (records_in (n + 1) l) ≡ record_lines (records_in n l) ++ record_line (record_in (drop (record_size * n) l))
lines_next n l = rw (add-one n, records_next n l) (lines_snoc (records_in n l) (record_in (drop (record_size * n) l)))

pub lines_none : (l : List ℕ) → record_lines (records_in 0 l) ≡ []
unfolding records_in record_lines
lines_none l = refl
