-- Document 01, 'Figures for both sides of each edge': the starred figures in one table, each with what it claims.
-- A new kind of figure is a new case of `Claim`, with its meaning in `Holds`.
use Rattle.std.specs.Prelude.{◌≡◌, Bool, true, false, List, [], ◌∷◌, map, ℕ, ◌*◌, ◌-◌, ◌^◌, ℤ, pos, neg_ℤ}
use Rattle.measure.specs.declared.Point.{Point}
use Rattle.measure.specs.declared.Bounds.{Bounds}
use Rattle.measure.specs.Axes.{min_dist, min_max_dist}
use Rattle.measure.specs.Answer.{axes_of, measured_by, reading}
use Rattle.measure.specs.Root.{RootOf}
use Rattle.tree.specs.Examples.{empty_map, example_map}
use Rattle.record.specs.declared.Record.{Record}
use Rattle.question.specs.declared.Question.{Question}
use Rattle.question.specs.Badge.{badge_ok}
use Rattle.record.specs.Record.{record_size}
use Rattle.ask.specs.Told.{page_of}
use Rattle.ask.specs.Reply.{refusal}

pub data Claim : Type 0 where
  -- a point and a box, with MINDIST and MINMAXDIST, neither refused
  measures : Point → Bounds → ℕ → ℕ → Claim
  -- a question on a map, with a room for k records: the answer's number, and the page's bays with their squared distances
  asks : List ℕ → Question → ℕ → List (ℕ × ℕ) → Claim
  -- how many zones a badge has, and whether it passes
  zones : ℕ → Bool → Claim
  -- a squared distance and its plain distance
  plain : ℕ → ℕ → Claim

-- a bay of a page, with its squared distance
abbrev pub seen : Record → ℕ × ℕ
seen e = (e.bay, e.far.0)

abbrev pub Holds : Claim → Type 0
Holds (measures p b least promised) =
    (measured_by min_dist (axes_of p b) ≡ reading 0 least) × (measured_by min_max_dist (axes_of p b) ≡ reading 0 promised)
Holds (asks m q n found) = (refusal m q (record_size * q.k) ≡ n) × (map seen (page_of m q) ≡ found)
Holds (zones n t) = badge_ok (2 ^ n - 1) ≡ t
Holds (plain d r) = RootOf d r

pub record Figure : Type 0 where
  pub number : ℕ
  pub claim : Claim

abbrev figure : ℕ → Claim → Figure
figure n c = record { number = n; claim = c }

abbrev point : ℤ → ℤ → Point
point x y = record { x = x; y = y }

abbrev box : ℤ → ℤ → ℤ → ℤ → Bounds
box xlow xhigh ylow yhigh = record { x = record { low = xlow; high = xhigh }; y = record { low = ylow; high = yhigh } }

abbrev minus : ℕ → ℤ
minus n = neg_ℤ (pos n)

-- a question from a point: how many bays, the badge, and the mark's squared distance and bay
abbrev question : Point → ℕ → ℕ → ℕ → ℕ → Question
question from k badge dsq bay =
    record { from = from; k = k; badge = record { 0 = badge }; mark = record { far = record { 0 = dsq }; bay = bay } }

abbrev pub table : List Figure
table =
    figure 1 (measures (point (minus 3) (pos 2)) (box (pos 0) (pos 10) (pos 0) (pos 4)) 9 13)
    ∷ figure 2 (measures (point (pos 5) (pos 2)) (box (pos 0) (pos 10) (pos 0) (pos 4)) 0 29)
    ∷ figure 3 (measures (point (minus 1) (pos 0)) (box (minus 3) (pos 0) (pos 0) (pos 0)) 0 1)
    ∷ figure 4 (measures (point (pos 4) (pos 5)) (box (pos 1) (pos 1) (pos 1) (pos 1)) 25 25)
    ∷ figure 5 (measures (point (minus 1000000) (minus 1000000)) (box (pos 1000000) (pos 1000000) (pos 1000000) (pos 1000000)) 8000000000000 8000000000000)
    ∷ figure 6 (asks example_map (question (point (pos 6) (pos 2)) 3 40 0 0) 0 ((9, 9) ∷ (4, 16) ∷ (7, 16) ∷ []))
    ∷ figure 7 (asks example_map (question (point (pos 6) (pos 2)) 1 8 16 4) 0 ((7, 16) ∷ []))
    ∷ figure 7 (asks example_map (question (point (pos 6) (pos 2)) 1 8 16 7) 0 [])
    ∷ figure 8 (asks empty_map (question (point (pos 0) (pos 0)) 1 1 0 0) 0 [])
    ∷ figure 9 (zones 8 true)
    ∷ figure 9 (zones 9 false)
    ∷ figure 9 (zones 31 false)
    ∷ figure 9 (zones 32 true)
    ∷ figure 10 (plain 0 0)
    ∷ figure 10 (plain 15 3)
    ∷ figure 10 (plain 16 4)
    ∷ []

-- every figure of a list holds
abbrev pub AllHold : List Figure → Type 0
AllHold [] = Unit {0}
AllHold (f ∷ fs) = Holds f.claim × AllHold fs
