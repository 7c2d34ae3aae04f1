-- The test of each node is the definition's.
use Rattle.std.proofs.Common.{◌+◌, ◌*◌, rules, tests}
use Rattle.numbers.specs.Below.{all_below}
use Rattle.numbers.proofs.Ranges.{all_ran}
use Rattle.floor.specs.View.{view_of}
use Rattle.bays.specs.Certificate.{found_at, found_all}
use Rattle.bays.proofs.certificate.all_found.Goals as goal

pub returns : goal.returns
unfolding found_all
returns g c =
    let v = view_of c.args.map.now.bytes.now in
    all_ran (λ n. all_below (λ i. found_at (g.I.Index.find_of c.args.index.now v) v (8 * n + i)) 8) v.count c.all.ensures.ran (cc) (λ x t q k. search (rules, tests))
