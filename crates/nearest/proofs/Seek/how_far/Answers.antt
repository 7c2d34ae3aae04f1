-- No filled slot of an accepted map is refused.
use Rattle.nearest.proofs.Sought.{ready_there}
use Rattle.nearest.proofs.Seek.how_far.Goals as goal

pub far_to-requires : goal.far_to-requires
far_to-requires c = rw c.bounds.ensures (ready_there c.args.self.now c.args.j c.requires.inside c.requires.there)
