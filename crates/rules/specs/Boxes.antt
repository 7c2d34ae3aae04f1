-- Rule 15: a filled slot above the leaves carries exactly the smallest box round all filled boxes of the node it names.
use Rattle.std.specs.Prelude.{◌≡◌, Bool, true, cond, ◌||◌, ℕ, zero, suc, ◌+◌, ◌*◌, ◌<◌, ℤ, pos, negsuc}
use Rattle.std.specs.Int.Signed.{le_z}
use Rattle.numbers.specs.Below.{all_below}
use Rattle.measure.specs.declared.Bounds.{Bounds}
use Rattle.measure.specs.declared.Span.{Span}
use Rattle.floor.specs.View.{View, filled, leaf, link, bounds_by, span_on}
use Rattle.floor.specs.Layout.{axis_count}
use Rattle.rules.specs.Spans.{same_span}

-- the two ends of a span
pub data Side : Type 0 where
  Low : Side
  High : Side

-- a lies at least as far out on a side as b
abbrev pub as_far : Side → ℤ → ℤ → Bool
as_far Low a b = le_z a b
as_far High a b = le_z b a

-- the outer one of two
unfoldable pub outer : Side → ℤ → ℤ → ℤ
outer side a b = cond (as_far side a b) a b

abbrev pub end_of : Side → Span → ℤ
end_of Low s = s.low
end_of High s = s.high

-- the smallest span round two
abbrev pub around : Span → Span → Span
around s t = record { low = outer Low s.low t.low; high = outer High s.high t.high }

-- no span at all: every coordinate lies farther out than its ends
abbrev pub no_span : Span
no_span = record { low = pos 2147483647; high = negsuc 2147483647 }

-- a span on axis a, grown round slot j where that is filled
abbrev pub grown_on : View → ℕ → ℕ → Span → Span
grown_on v a j s = cond (filled v j) (around s (v.span j a)) s

-- on axis a, the smallest span round the filled ones of node n's first i slots
unfoldable pub hull : View → ℕ → ℕ → ℕ → Span
hull v a n zero = no_span
hull v a n (suc i) = grown_on v a (8 * n + i) (hull v a n i)

-- the same on every axis
abbrev pub grown_of : View → ℕ → Bounds → Bounds
grown_of v j b = bounds_by (λ a. grown_on v a j (span_on b a))

abbrev pub hull_of : View → ℕ → ℕ → Bounds
hull_of v n i = bounds_by (λ a. hull v a n i)

-- of a node above the leaves: a filled slot carries that span on every axis
unfoldable pub tight_ok : View → ℕ → Bool
tight_ok v j = cond (filled v j) (all_below (λ a. same_span (v.span j a) (hull v a (v.ref j) 8)) axis_count) true

-- the rule, of node n
unfoldable pub boxes_ok : View → ℕ → Bool
boxes_ok v n = leaf v n || all_below (λ i. tight_ok v (8 * n + i)) 8

-- the property; that `hull` is the smallest is shown by `hull_holds` and `hull_reached`
abbrev pub WellBoxed : View → ℕ → Type 0
WellBoxed v n =
    (i : ℕ) → i < 8 → link v (8 * n + i) ≡ true
    → (a : ℕ) → a < axis_count → v.span (8 * n + i) a ≡ hull v a (v.ref (8 * n + i)) 8
