-- What the code of the link rule leans on, and what it tests of a slot as it was read. For the proofs of the code: a
-- reader of the rules needs none of it.
use Rattle.std.specs.Prelude.{◌≡◌, Bool, ◌&&◌, List, ℕ, ◌<◌, eqb, get_or}
use Rattle.numbers.specs.Below.{all_below}
use Rattle.floor.specs.declared.Slot.{Slot}
use Rattle.floor.specs.View.{View, span_on}
use Rattle.floor.specs.Layout.{axis_count}
use Rattle.rules.specs.Spans.{same_span}
use Rattle.rules.specs.Form.{zero_span}
use Rattle.rules.specs.Links.{named}

-- the counts that the link rule leans on
abbrev pub Counted : View → List ℕ → Type 0
Counted v counts = (t : ℕ) → t < v.count → get_or counts t 0 ≡ named v t

-- that a slot which is not filled is all zero, of the slot as it was read
unfoldable pub blank_slot : Slot → Bool
blank_slot s =
    all_below (λ a. same_span (span_on s.bounds a) zero_span) axis_count
    && eqb s.reference 0
    && eqb s.zone 0
    && s.clear
