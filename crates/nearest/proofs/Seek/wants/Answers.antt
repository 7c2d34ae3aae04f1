-- No filled slot of an accepted map is refused.
use Rattle.nearest.proofs.Sought.{ready_there}
use Rattle.nearest.proofs.Seek.wants.Goals as goal

pub far_to-far-requires : goal.far_to-far-requires
far_to-far-requires c = rw c.slot-slot.ensures (ready_there c.args.self.now c.args.j c.requires.inside c.requires.there)
