-- What is refused does not hang on the measure.
use Rattle.std.proofs.Common.{ap, ◌∙◌, rules}
use Rattle.measure.specs.Axes.{min_dist, min_max_dist}
use Rattle.measure.specs.Answer.{Reading}
use Rattle.station.proofs.Measures.{AllFit, same_measure, same_number}
use Rattle.station.proofs.krylozhma_measure_answer.Goals as goal

pub returns : goal.returns
returns c =
    let fits : AllFit c.args.x c.args.y c.args.xlow c.args.xhigh c.args.ylow c.args.yhigh = search rules in
    let is = c.mindist.ensures ∙ same_measure min_dist fits c.point.ensures c.bounds.ensures in
    let one = c.answer_of.ensures ∙ ap (λ (r : Reading). r.number) is in
    (one, one ∙ same_number min_dist min_max_dist _)
