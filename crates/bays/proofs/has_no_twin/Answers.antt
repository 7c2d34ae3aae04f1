-- The test of each slot is the definition's.
use Rattle.std.proofs.Common.{◌+◌, ◌*◌, not, refl, rules, tests}
use Rattle.floor.specs.View.{view_of}
use Rattle.bays.specs.Bays.{twin}
use Rattle.numbers.proofs.Ranges.{fold_ran}
use Rattle.bays.proofs.has_no_twin.Goals as goal

pub returns : goal.returns
returns c =
    fold_ran (λ i. not (twin (view_of c.args.map.now.bytes.now) c.args.j (8 * c.args.n + i))) 8 _ _ c.fold.ensures.ran refl (λ ok x b q k. search (rules, tests))
