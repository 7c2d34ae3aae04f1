-- The least low end and the greatest high one.
use Rattle.std.proofs.Common.{rules, ◌≡◌, ◌∙◌}
use Rattle.std.specs.Int.{int_min, int_max}
use Rattle.rules.specs.Boxes.{outer, Low, High}
use Rattle.rules.proofs.Spans.{least_low, greatest_high}
use Rattle.rules.proofs.boxes.span_around.Goals as goal

pub returns : goal.returns
returns c =
    let least : c.min.result ≡ int_min c.args.s.low c.args.t.low = search rules in
    let greatest : c.max.result ≡ int_max c.args.s.high c.args.t.high = search rules in
    let low : c.min.result ≡ outer Low c.args.s.low c.args.t.low = least ∙ least_low c.args.s.low c.args.t.low in
    let high : c.max.result ≡ outer High c.args.s.high c.args.t.high = greatest ∙ greatest_high c.args.s.high c.args.t.high in
    search rules
