-- The bays that a map shows a badge: number, zone and box, wherever they stand in the map.
use Rattle.std.specs.Prelude.{◌≡◌, true, List, map, ℕ}
use Rattle.measure.specs.declared.Bounds.{Bounds}
use Rattle.measure.specs.declared.Point.{Point}
use Rattle.measure.specs.Axes.{min_dist}
use Rattle.measure.specs.Answer.{axes_of}
use Rattle.floor.specs.View.{View, view_of, bounds_of}
use Rattle.tree.specs.Flat.{all_bays}
use Rattle.order.specs.Order.{Same, only}
use Rattle.record.specs.declared.Record.{Record}
use Rattle.nearest.specs.Shown.{shown_at}
use Rattle.ask.specs.Reply.{accepted}

pub record Bay : Type 0 where
  pub number : ℕ
  pub zone : ℕ
  pub bounds : Bounds

-- the bay in slot j
abbrev pub bay_at : View → ℕ → Bay
bay_at v j = record { number = v.ref j; zone = v.zone j; bounds = bounds_of v j }

-- the bays that a badge is shown
unfoldable pub visible : ℕ → List ℕ → List Bay
visible badge m = map (bay_at (view_of m)) (only (shown_at (view_of m) badge) (all_bays (view_of m)))

-- a bay as it is told to whoever asks from a point: how far it is is MINDIST to its box
abbrev pub seen_from : Point → Bay → Record
seen_from p b = record { bay = b.number; zone = b.zone; far = record { 0 = min_dist (axes_of p b.bounds) } }

-- two maps show a badge the same bays: slots, nodes and height may differ
abbrev pub SameBays : ℕ → List ℕ → List ℕ → Type 0
SameBays badge m other = Same (visible badge m) (visible badge other)

-- for a badge two maps are alike: the check says the same yes or no of both and, where it says yes, they show the same bays
pub record Alike (badge : ℕ) (m other : List ℕ) : Type 0 where
  pub check : accepted m ≡ accepted other
  pub bays : accepted m ≡ true → SameBays badge m other
