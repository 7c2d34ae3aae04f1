-- The test of each node is the definition's.
use Rattle.std.proofs.Common.{◌+◌, ◌*◌, not, rules, tests}
use Rattle.numbers.specs.Below.{all_below}
use Rattle.floor.specs.View.{view_of}
use Rattle.bays.specs.Bays.{twin, lone}
use Rattle.numbers.proofs.Ranges.{fold_ran}
use Rattle.bays.proofs.is_lone.Goals as goal

pub returns : goal.returns
unfolding lone
returns c =
    fold_ran (λ n. all_below (λ i. not (twin (view_of c.args.map.now.bytes.now) c.args.j (8 * n + i))) 8) (view_of c.args.map.now.bytes.now).count _ _ c.fold.ensures.ran (cc) (λ ok x b q k. search (rules, tests))
