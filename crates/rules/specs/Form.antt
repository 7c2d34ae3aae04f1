-- Rule 12: levels below the height, zero bytes zero, unfilled slots all zero, filled slots in form.
use Rattle.std.specs.Prelude.{◌≡◌, Bool, true, false, not, cond, ◌&&◌, ℕ, ◌+◌, ◌*◌, ◌/◌, ◌<◌, eqb, ltb, pos}
use Rattle.numbers.specs.Below.{all_below}
use Rattle.measure.specs.declared.Span.{Span}
use Rattle.measure.specs.Axis.{span_in}
use Rattle.floor.specs.View.{View, filled, leaf}
use Rattle.floor.specs.Layout.{axis_count}
use Rattle.rules.specs.Spans.{same_span}

-- what a filled slot refers to: in a leaf a bay number and a zone, above the leaves a node
unfoldable pub refer_ok : View → ℕ → Bool
refer_ok v j =
    cond (leaf v (j / 8))
    (not (eqb (v.ref j) 0) && ltb (v.zone j) 32)
    (ltb (v.ref j) v.count && eqb (v.zone j) 0)

unfoldable pub entry_ok : View → ℕ → Bool
entry_ok v j = all_below (λ a. span_in (v.span j a)) axis_count && refer_ok v j && v.slot_clear j

abbrev pub zero_span : Span
zero_span = record { low = pos 0; high = pos 0 }

-- every field of an unfilled slot is zero, so that all its bytes are
unfoldable pub blank_ok : View → ℕ → Bool
blank_ok v j =
    all_below (λ a. same_span (v.span j a) zero_span) axis_count && eqb (v.ref j) 0 && eqb (v.zone j) 0 && v.slot_clear j

unfoldable pub slot_ok : View → ℕ → Bool
slot_ok v j = cond (filled v j) (entry_ok v j) (blank_ok v j)

-- the rule, of node n
unfoldable pub form_ok : View → ℕ → Bool
form_ok v n = ltb (v.level n) v.height && v.node_clear n && all_below (λ i. slot_ok v (8 * n + i)) 8

-- the property: what a filled slot refers to
pub record Refer (v : View) (j : ℕ) : Type 0 where
  pub bay : leaf v (j / 8) ≡ true → (v.ref j ≡ 0 → ⊥) × (v.zone j < 32)
  pub node : leaf v (j / 8) ≡ false → (v.ref j < v.count) × (v.zone j ≡ 0)

-- a filled slot in form
pub record Entry (v : View) (j : ℕ) : Type 0 where
  pub spans : (a : ℕ) → a < axis_count → span_in (v.span j a) ≡ true
  pub refer : Refer v j
  pub clear : v.slot_clear j ≡ true

-- an unfilled slot, all zero
pub record Blank (v : View) (j : ℕ) : Type 0 where
  pub spans : (a : ℕ) → a < axis_count → v.span j a ≡ zero_span
  pub ref : v.ref j ≡ 0
  pub zone : v.zone j ≡ 0
  pub clear : v.slot_clear j ≡ true

pub record InForm (v : View) (n : ℕ) : Type 0 where
  pub low : v.level n < v.height
  pub clear : v.node_clear n ≡ true
  pub entries : (i : ℕ) → i < 8 → filled v (8 * n + i) ≡ true → Entry v (8 * n + i)
  pub blanks : (i : ℕ) → i < 8 → filled v (8 * n + i) ≡ false → Blank v (8 * n + i)
