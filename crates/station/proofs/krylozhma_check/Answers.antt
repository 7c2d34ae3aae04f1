-- The verdict's two numbers fit the halves.
use Rattle.std.proofs.Common.{ap, arith}
use Rattle.rules.specs.Verdicts.{node_of}
use Rattle.station.proofs.Small.{rule_small, node_small}
use Rattle.station.proofs.krylozhma_check.Goals as goal

pub pair-requires : goal.pair-requires
pair-requires c =
    let verdict = c.check-verdict in
    (omega (arith, c.from.ensures, c.number_of.ensures, rule_small verdict.result), omega (arith, c.node_of.ensures, ap node_of verdict.ensures, node_small c.args.map.now))
