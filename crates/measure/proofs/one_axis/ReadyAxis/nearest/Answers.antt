-- A span that nothing refuses has low ≤ high. Assumes nothing.
use Rattle.std.proofs.Common.{rules}
use mir.Facts.{to_z-of_z}
use Rattle.measure.proofs.Range.{Fields, ordered}
use Rattle.measure.proofs.one_axis.ReadyAxis.nearest.Goals as goal

pub clamp-requires : goal.clamp-requires
clamp-requires c =
    let f : Fields c.args.self.axis = search rules in
    rw (to_z-of_z f.low, to_z-of_z f.high) (ordered c.args.self.ready)
