-- The test of each slot is the definition's.
use Rattle.std.proofs.Common.{ℕ, ◌+◌, ◌*◌, refl, rules, tests}
use Rattle.floor.specs.View.{view_of}
use Rattle.bays.specs.Certificate.{found_at}
use Rattle.numbers.proofs.Ranges.{fold_ran}
use Rattle.bays.proofs.certificate.node_found.Goals as goal

pub returns : goal.returns
returns g c =
    let v = view_of c.args.map.now.bytes.now in
    let found = λ (i : ℕ). found_at (g.I.Index.find_of c.args.index.now v) v (8 * c.args.node + i) in
    fold_ran found 8 _ _ c.fold.ensures.ran refl (λ ok x b q k. search (rules, tests))
