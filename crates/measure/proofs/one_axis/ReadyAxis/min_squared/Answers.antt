-- The nearest place is in range, as `square_to` asks. Assumes nothing.
use Rattle.std.proofs.Common.{◌∙◌, w32}
use mir.Facts.{to_z-of_z}
use Rattle.measure.proofs.Range.{nearest_in}
use Rattle.measure.proofs.one_axis.ReadyAxis.min_squared.Goals as goal

pub square_to-requires : goal.square_to-requires
square_to-requires c =
    rw (to_z-of_z {w = w32} (record { sfits = c.nearest.type_inv }) ∙ c.nearest.ensures) (nearest_in c.args.self.ready)
