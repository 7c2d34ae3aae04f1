-- The reply's two numbers fit the halves.
use Rattle.std.proofs.Common.{ap, arith}
use Rattle.ask.specs.Reply.{Reply}
use Rattle.ask.proofs.Answers.{found_few}
use Rattle.station.proofs.Small.{answer_small}
use Rattle.station.proofs.krylozhma_ask.Goals as goal

pub pair-requires : goal.pair-requires
pair-requires c =
    let few = found_few c.args.map.now c.question_of.result c.args.room.now in
    (omega (arith, c.from-number.ensures, c.number_of.ensures, answer_small c.ask-answer.result), omega (arith, c.found_in-found.ensures, ap (λ (r : Reply). r.found) c.ask-answer.ensures, few))
