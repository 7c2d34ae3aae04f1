-- The theorems of the measures. MINDIST never falls when a box shrinks; MINDIST ≤ MINMAXDIST; both are bounded;
-- any two answers that meet a contract coincide. Assumes nothing.
use mathlib.Core.Path.{◌≡◌, refl, sym, ap, ◌∙◌, subst}
use mathlib.Core.Bool.{Bool, true, false, cond}
use mathlib.Core.List.{List, [], ◌∷◌, map}
use Prim.Native.Nat.{ℕ, ◌+◌, ◌*◌, ◌≤◌}
use native.Mathlib.Omega.{arith}
use native.Mathlib.Nat.{le_refl}
use lib.Dec.{eqb}
use lib.ListN.{length}
use Rattle.std.specs.Prelude.{Result, Ok, Err}
use lib.IntN.{ℤ}
use lib.Signed.{≤ℤ_refl}
use Rattle.numbers.proofs.Order.{≤ℤ-trans}
use Rattle.numbers.proofs.Squares as squares
use Rattle.measure.specs.declared.Axis.{Axis}
use Rattle.measure.specs.declared.Mm.{Mm}
use Rattle.measure.specs.declared.SquaredMm.{SquaredMm}
use Rattle.measure.specs.declared.OutOfRange.{OutOfRange}
use Rattle.measure.specs.declared.OutOfRange.TheVariants.{PointOutside, BoxOutside}
use Rattle.measure.specs.Axis.{point_in, box_in, square_of, nearest_on, low_is_near, low_is_far, min_sq, near_sq, far_sq, Ready}
use Rattle.measure.specs.Axes.{every, Each, sum_over, face_sums, least, min_dist, min_max_dist}
use Rattle.measure.specs.Answer.{Reading, reading_of, measured_by}
use Rattle.measure.specs.Root.{RootOf}
use Rattle.measure.specs.Within.{Within, AllWithin, none, more}
use Rattle.measure.proofs.Range.{most, min_small, ordered}
use Rattle.measure.proofs.Answers.{measured_0, measured_1, measured_2, every_ready}
use Rattle.measure.proofs.Nearest.{nearest_least, nearest_within}

-- ---- MINDIST never falls when a box shrinks

min_more : (a b : Axis) → Within a b → min_sq b ≤ min_sq a
min_more a b w =
    let in_a = nearest_within a w.span in
    subst (λ (p : ℤ). min_sq b ≤ square_of p (nearest_on a)) (sym w.point)
    (nearest_least b (nearest_on a) (≤ℤ-trans w.low in_a.0) (≤ℤ-trans in_a.1 w.high))

pub mindist_more : {inner outer : List Axis} → AllWithin inner outer → min_dist outer ≤ min_dist inner
unfolding min_dist
mindist_more none = le_refl 0
mindist_more (more {a} {b} w ws) = omega (arith, min_more a b w, mindist_more ws)

-- ---- MINDIST ≤ MINMAXDIST

-- an end of the span is a place of it
module _ (a : Axis) (h : Ready a) where
  face_more : (t : Bool) → min_sq a ≤ square_of a.at (cond t a.span.low a.span.high)
  face_more true = nearest_least a a.span.low (≤ℤ_refl a.span.low) (ordered h)
  face_more false = nearest_least a a.span.high (ordered h) (≤ℤ_refl a.span.high)

  near_more : min_sq a ≤ near_sq a
  near_more = face_more (low_is_near a)

  far_more : min_sq a ≤ far_sq a
  far_more = face_more (low_is_far a)

-- m is at most every one of a list
abbrev Below : ℕ → List ℕ → Type 0
Below m [] = Unit {0}
Below m (n ∷ ns) = (m ≤ n) × Below m ns

below_least : (m n : ℕ) (ns : List ℕ) → Below m (n ∷ ns) → m ≤ least (n ∷ ns)
below_least m n [] h = h.0
below_least m n (k ∷ ns) h = omega (arith, h.0, below_least m k ns h.1)

below_map : (k l m : ℕ) (ns : List ℕ) → k ≤ l → Below m ns → Below (k + m) (map (λ (n : ℕ). l + n) ns)
below_map k l m [] e h = tt
below_map k l m (n ∷ ns) e h = (omega (arith, h.0), below_map k l m ns e h.1)

far_sum_more : (axes : List Axis) → Each Ready axes → sum_over min_sq axes ≤ sum_over far_sq axes
far_sum_more [] h = le_refl 0
far_sum_more (a ∷ axes) h = omega (arith, far_more a h.0, far_sum_more axes h.1)

sums_more : (axes : List Axis) → Each Ready axes → Below (sum_over min_sq axes) (face_sums axes)
sums_more [] h = tt
sums_more (a ∷ axes) h =
    (omega (arith, near_more a h.0, far_sum_more axes h.1), below_map _ _ _ (face_sums axes) (far_more a h.0) (sums_more axes h.1))

pub minmaxdist_more : (axes : List Axis) → Each Ready axes → min_dist axes ≤ min_max_dist axes
unfolding min_dist min_max_dist
minmaxdist_more [] h = le_refl 0
minmaxdist_more (a ∷ axes) h = below_least _ _ (map (λ (n : ℕ). far_sq a + n) (face_sums axes)) (sums_more (a ∷ axes) h)

-- as they are answered, refused or not
pub answered_more : (axes : List Axis) → (measured_by min_dist axes).value ≤ (measured_by min_max_dist axes).value
answered_more axes = by (every point_in axes) (every box_in axes) refl refl
  where
    by : (s t : Bool) → every point_in axes ≡ s → every box_in axes ≡ t → (measured_by min_dist axes).value ≤ (measured_by min_max_dist axes).value
    by false t e f = rw (measured_1 min_dist axes e, measured_1 min_max_dist axes e) (le_refl 0)
    by true false e f = rw (measured_2 min_dist axes e f, measured_2 min_max_dist axes e f) (le_refl 0)
    by true true e f =
        rw (measured_0 min_dist axes e f, measured_0 min_max_dist axes e f) (minmaxdist_more axes (every_ready axes e f))

-- ---- bounds

pub mindist_small : (axes : List Axis) → Each Ready axes → min_dist axes ≤ length axes * most
unfolding min_dist
mindist_small [] h = le_refl 0
mindist_small (a ∷ axes) h = omega (arith, min_small h.0, mindist_small axes h.1)

-- ---- any two answers that meet a contract coincide

-- the answer with a given number and value
answer_of : Reading → Result SquaredMm OutOfRange
answer_of r = cond (eqb r.number 0) (Ok (record { 0 = r.value })) (cond (eqb r.number 1) (Err PointOutside) (Err BoxOutside))

answer_back : (m : Result SquaredMm OutOfRange) → answer_of (reading_of m) ≡ m
unfolding answer_of
answer_back (Ok d) = refl
answer_back (Err PointOutside) = refl
answer_back (Err BoxOutside) = refl

pub answer_unique : (m n : Result SquaredMm OutOfRange) → reading_of m ≡ reading_of n → m ≡ n
answer_unique m n h = sym (answer_back m) ∙ ap answer_of h ∙ answer_back n

pub root_unique : (d : ℕ) (r s : Mm) → RootOf d r.0 → RootOf d s.0 → r ≡ s
root_unique d r s h k = λ i. record { 0 = squares.root_unique d r.0 s.0 h.low h.high k.low k.high i }
