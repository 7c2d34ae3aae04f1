-- The sum stays below the prime, so that no product is too large.
use Rattle.std.proofs.Common.{◌<◌}
use Rattle.trial.proofs.answer_room.sum.Given as goal

abbrev pub invariant-loop-byte : goal.invariant-loop-byte
invariant-loop-byte l = l.told < 17592186044399
