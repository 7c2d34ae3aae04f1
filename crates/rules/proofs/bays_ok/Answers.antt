-- The tests are the definition's own.
use Rattle.std.proofs.Common.{rules, refl, ◌*◌, ◌+◌}
use Rattle.floor.specs.View.{view_of}
use Rattle.numbers.proofs.Ranges.{all_ran}
use Rattle.bays.specs.Bays.{lone, bays_ok}
use Rattle.rules.proofs.bays_ok.Goals as goal

pub returns : goal.returns
unfolding bays_ok lone
returns c =
    all_ran (λ i. lone (view_of c.args.map.now.bytes.now) (8 * c.args.n + i)) 8 c.all.ensures.ran refl (λ x t q k. search rules)
