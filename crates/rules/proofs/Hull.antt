-- `hull` is the smallest span round the filled slots of a node: it holds each of them, and one of them meets it.
-- Each fact stands once, for a side. Assumes nothing.
use mathlib.Core.Path.{◌≡◌, refl, sym, ◌∙◌}
use mathlib.Core.Bool.{Bool, true, false, cond, ◌&&◌, false≢true}
use mathlib.Core.Logic.{◌⊎◌, inl, inr, ⊎_elim}
use Prim.Native.Nat.{ℕ, zero, suc, ◌+◌, ◌*◌, ◌<◌}
use native.Mathlib.Omega.{arith}
use lib.IntN.{ℤ, pos, negsuc, neg_ℤ}
use lib.Signed.{le_z}
use Rattle.std.proofs.lemmas.Bool.{and_parts}
use Rattle.numbers.proofs.Order.{le_self, le_through, le_total}
use Rattle.numbers.proofs.Below.{ordered}
use Rattle.measure.specs.declared.Span.{Span}
use Rattle.measure.specs.Axis.{limit, in_range, span_in}
use Rattle.floor.specs.View.{View, filled}
use Rattle.rules.specs.Boxes.{Side, Low, High, as_far, outer, end_of, around, no_span, hull}

-- ---- how far out: reflexive, transitive and total

pub far_self : (side : Side) (a : ℤ) → as_far side a a ≡ true
far_self Low a = le_self a
far_self High a = le_self a

pub far_through : (side : Side) (a b c : ℤ) → as_far side a b ≡ true → as_far side b c ≡ true → as_far side a c ≡ true
far_through Low a b c h k = le_through a b c h k
far_through High a b c h k = le_through c b a k h

pub far_total : (side : Side) (a b : ℤ) → as_far side a b ≡ false → as_far side b a ≡ true
far_total Low a b e = le_total a b e
far_total High a b e = le_total b a e

-- ---- the outer one of two is as far out as either, and is one of them

outer_first : (side : Side) (a b : ℤ) → as_far side (outer side a b) a ≡ true
unfolding outer
outer_first side a b = by (as_far side a b) refl
  where
    by : (t : Bool) → as_far side a b ≡ t → as_far side (cond t a b) a ≡ true
    by true e = far_self side a
    by false e = far_total side a b e

outer_second : (side : Side) (a b : ℤ) → as_far side (outer side a b) b ≡ true
unfolding outer
outer_second side a b = by (as_far side a b) refl
  where
    by : (t : Bool) → as_far side a b ≡ t → as_far side (cond t a b) b ≡ true
    by true e = e
    by false e = far_self side b

outer_either : (side : Side) (a b : ℤ) → (outer side a b ≡ a) ⊎ (outer side a b ≡ b)
unfolding outer
outer_either side a b = by (as_far side a b)
  where
    by : (t : Bool) → (cond t a b ≡ a) ⊎ (cond t a b ≡ b)
    by true = inl refl
    by false = inr refl

around_end : (side : Side) (s t : Span) → end_of side (around s t) ≡ outer side (end_of side s) (end_of side t)
around_end Low s t = refl
around_end High s t = refl

end_in : (side : Side) (s : Span) → span_in s ≡ true → in_range (end_of side s) ≡ true
unfolding span_in
end_in side s e = by side (and_parts (in_range s.low) (in_range s.high) ends)
  where
    ends : (in_range s.low && in_range s.high) ≡ true
    ends = (and_parts (in_range s.low && in_range s.high) (le_z s.low s.high) e).0

    by : (side : Side) → (in_range s.low ≡ true) × (in_range s.high ≡ true) → in_range (end_of side s) ≡ true
    by Low h = h.0
    by High h = h.1

-- a coordinate in range lies farther out than the end of no span at all
none_inner : (side : Side) (z : ℤ) → in_range z ≡ true → as_far side (end_of side no_span) z ≡ true → ⊥
unfolding in_range
none_inner side z e h = by side (and_parts (le_z (neg_ℤ (pos limit)) z) (le_z z (pos limit)) e) h
  where
    by : (side : Side) → (le_z (neg_ℤ (pos limit)) z ≡ true) × (le_z z (pos limit) ≡ true) → as_far side (end_of side no_span) z ≡ true → ⊥
    by Low r h = false≢true (le_through (pos 2147483647) z (pos limit) h r.1)
    by High r h = false≢true (le_through (neg_ℤ (pos limit)) z (negsuc 2147483647) r.0 h)

module _ (v : View) (a n : ℕ) (side : Side) where
  -- the end of slot k of node n, and of the hull of its first i slots
  abbrev slot_end : ℕ → ℤ
  slot_end k = end_of side (v.span (8 * n + k) a)

  abbrev hull_end : ℕ → ℤ
  hull_end i = end_of side (hull v a n i)

  -- one slot more
  hull_filled : (i : ℕ) → filled v (8 * n + i) ≡ true → hull_end (suc i) ≡ outer side (hull_end i) (slot_end i)
  unfolding hull
  hull_filled i f = rw f (around_end side (hull v a n i) (v.span (8 * n + i) a))

  hull_blank : (i : ℕ) → filled v (8 * n + i) ≡ false → hull_end (suc i) ≡ hull_end i
  unfolding hull
  hull_blank i f = rw f

  hull_grows : (i : ℕ) → as_far side (hull_end (suc i)) (hull_end i) ≡ true
  hull_grows i = by (filled v (8 * n + i)) refl
    where
      by : (t : Bool) → filled v (8 * n + i) ≡ t → as_far side (hull_end (suc i)) (hull_end i) ≡ true
      by true f = rw (hull_filled i f) (outer_first side (hull_end i) (slot_end i))
      by false f = rw (hull_blank i f) (far_self side (hull_end i))

  hull_last : (i : ℕ) → filled v (8 * n + i) ≡ true → as_far side (hull_end (suc i)) (slot_end i) ≡ true
  hull_last i f = rw (hull_filled i f) (outer_second side (hull_end i) (slot_end i))

  -- every filled slot's end lies no farther out than the hull's
  pub hull_holds : (i k : ℕ) → k < i → filled v (8 * n + k) ≡ true → as_far side (end_of side (hull v a n i)) (end_of side (v.span (8 * n + k) a)) ≡ true
  hull_holds zero k h f = absurd (omega arith)
  hull_holds (suc i) k h f =
      ⊎_elim
      (λ l. far_through side (hull_end (suc i)) (hull_end i) (slot_end k) (hull_grows i) (hull_holds i k l f))
      (⊎_elim (λ e. rw e (hull_last i (rw e at f))) (λ l. absurd (omega arith)))
      (ordered k i)

  -- a filled one of the first i slots whose end is e
  pub record Reaches (i : ℕ) (e : ℤ) : Type 0 where
    pub at : ℕ
    pub below : at < i
    pub filled : filled v (8 * n + at) ≡ true
    pub meets : end_of side (v.span (8 * n + at) a) ≡ e

  reaches_more : (i : ℕ) {e : ℤ} → Reaches i e → Reaches (suc i) e
  reaches_more i r = let b = r.below in record { at = r.at; below = omega arith; filled = r.filled; meets = r.meets }

  -- the hull's end is a filled slot's, or still that of no span
  abbrev Begun : ℕ → Type 0
  Begun i = Reaches i (hull_end i) ⊎ (hull_end i ≡ end_of side no_span)

  begun_kept : (i : ℕ) → hull_end (suc i) ≡ hull_end i → Begun i → Begun (suc i)
  begun_kept i e b = rw e (⊎_elim (λ r. inl (reaches_more i r)) inr b)

  begun_filled : (i : ℕ) → filled v (8 * n + i) ≡ true → Begun i → Begun (suc i)
  begun_filled i f b =
      ⊎_elim
      (λ e. begun_kept i (hull_filled i f ∙ e) b)
      (λ e. inl (record { at = i; below = omega arith; filled = f; meets = sym (hull_filled i f ∙ e) }))
      (outer_either side (hull_end i) (slot_end i))

  begun : (i : ℕ) → Begun i
  unfolding hull
  begun zero = inr refl
  begun (suc i) = by (begun i) (filled v (8 * n + i)) refl
    where
      by : Begun i → (t : Bool) → filled v (8 * n + i) ≡ t → Begun (suc i)
      by b true f = begun_filled i f b
      by b false f = begun_kept i (hull_blank i f) b

  -- where the hull itself is in range, a filled slot's end is the hull's
  pub hull_reached : (i : ℕ) → span_in (hull v a n i) ≡ true → Reaches i (end_of side (hull v a n i))
  hull_reached i s =
      ⊎_elim
      (λ r. r)
      (λ e. absurd (none_inner side (hull_end i) (end_in side (hull v a n i) s) (rw e (far_self side (end_of side no_span)))))
      (begun i)

  -- so it is where a filled slot's span is in range
  pub hull_met : (i k : ℕ) → k < i → filled v (8 * n + k) ≡ true → span_in (v.span (8 * n + k) a) ≡ true → Reaches i (end_of side (hull v a n i))
  hull_met i k h f s =
      ⊎_elim
      (λ r. r)
      (λ e. absurd (none_inner side (slot_end k) (end_in side (v.span (8 * n + k) a) s) (rw e at (hull_holds i k h f))))
      (begun i)
