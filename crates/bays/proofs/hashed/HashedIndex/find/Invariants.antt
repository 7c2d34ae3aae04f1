-- What is left of the walk gives what the whole gives.
use Rattle.std.proofs.Common.{◌≡◌, ◌-◌, ◌<◌}
use Rattle.floor.specs.View.{view_of}
use Rattle.bays.specs.Certificate.{home_of, walk_of}
use Rattle.bays.proofs.hashed.HashedIndex.find.Given as goal

abbrev pub invariant-loop-i : goal.invariant-loop-i
invariant-loop-i l =
    (l.at < 4096)
    × (walk_of (view_of l.map.bytes.now) l.self.table l.b 64 (home_of l.b) ≡ walk_of (view_of l.map.bytes.now) l.self.table l.b (64 - l.i) l.at)
