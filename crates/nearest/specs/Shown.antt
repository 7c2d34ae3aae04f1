-- The bays that a badge is shown, in order, and a page of them. Document 01, 'The question and its reply'.
-- A bay is the number of its slot here; what is told of it is read off the map when a page is written.
use Rattle.std.specs.Prelude.{Bool, List, ℕ, take}
use Rattle.measure.specs.declared.Point.{Point}
use Rattle.measure.specs.Axes.{min_dist}
use Rattle.measure.specs.Answer.{axes_of}
use Rattle.floor.specs.View.{View, bounds_of}
use Rattle.tree.specs.Flat.{all_bays}
use Rattle.order.specs.Order.{only, sort}
use Rattle.question.specs.declared.mark.Mark.{Mark}
use Rattle.question.specs.Badge.{on_badge}
use Rattle.question.specs.Mark.{before}

-- how far it is from a point to the box of slot j, by the map's measure: MINDIST
abbrev pub distance_to : View → Point → ℕ → ℕ
distance_to v p j = min_dist (axes_of p (bounds_of v j))

-- whether a badge is shown the bay in slot j
unfoldable pub shown_at : View → ℕ → ℕ → Bool
shown_at v badge j = on_badge badge (v.zone j)

-- where slot j stands in the order of bays, the distance of each slot given
abbrev pub mark_at : View → (ℕ → ℕ) → ℕ → Mark
mark_at v distance j = record { far = record { 0 = distance j }; bay = v.ref j }

abbrev pub earlier : View → (ℕ → ℕ) → ℕ → ℕ → Bool
earlier v distance i j = before (mark_at v distance i) (mark_at v distance j)

-- what comes strictly after a mark
abbrev pub after_mark : View → (ℕ → ℕ) → Mark → ℕ → Bool
after_mark v distance mark j = before mark (mark_at v distance j)

-- the badge's whole list, and the first k of it after the mark
unfoldable pub whole_list : View → (ℕ → ℕ) → ℕ → List ℕ
whole_list v distance badge = sort (earlier v distance) (only (shown_at v badge) (all_bays v))

unfoldable pub page : View → (ℕ → ℕ) → ℕ → Mark → ℕ → List ℕ
page v distance badge mark k = take k (only (after_mark v distance mark) (whole_list v distance badge))
