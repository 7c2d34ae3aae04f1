-- What the code's search rests on, of its map and its question. Assumes nothing.
use Prim.Native.Nat.{ℕ, ◌*◌, ◌<◌, ◌≤◌}
use mathlib.Core.Path.{◌≡◌}
use mathlib.Core.Bool.{true}
use Rattle.measure.specs.Axis.{Ready}
use Rattle.measure.specs.Axes.{Each}
use Rattle.measure.specs.Answer.{axes_of}
use Rattle.floor.specs.View.{bounds_of, filled}
use Rattle.nearest.specs.declared.Seek.{Seek}
use Rattle.nearest.specs.Ground.{Ground}
use Rattle.floor.specs.Seen.{seen}
use Rattle.nearest.specs.Sought.{away}
use Rattle.nearest.proofs.Checked.{grounded}
use Rattle.nearest.proofs.Measured.{slot_ready, distance_small}

module _ (s : Seek) where
  pub ground : Ground (seen s.map) s.q.from
  ground = grounded s.checked

  pub count_few : (seen s.map).count ≤ 256
  count_few = s.map.shaped.few

  module _ (j : ℕ) (inside : j < 8 * (seen s.map).count) (there : filled (seen s.map) j ≡ true) where
    pub ready_there : Each Ready (axes_of s.q.from (bounds_of (seen s.map) j))
    ready_there = slot_ready (seen s.map) s.q.from ground j inside there

    pub small_there : away s j ≤ 8000000000000
    small_there = distance_small (seen s.map) s.q.from ground j inside there
