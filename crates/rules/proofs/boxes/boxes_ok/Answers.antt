-- The tests are the definition's own.
use Rattle.std.proofs.Common.{rules, refl, ◌*◌, ◌+◌, ◌∙◌}
use borrow.Author.Tests.{ne_eqb}
use Rattle.floor.specs.View.{view_of}
use Rattle.numbers.proofs.Ranges.{all_ran}
use Rattle.rules.specs.Boxes.{tight_ok, boxes_ok}
use Rattle.rules.proofs.boxes.boxes_ok.Goals as goal

pub returns-else-level-eq0 : goal.returns-else-level-eq0
unfolding boxes_ok
returns-else-level-eq0 c =
    let v = view_of c.args.map.now.floor.bytes.now in
    let slots = all_ran (λ i. tight_ok v (8 * c.args.n + i)) 8 c.all.ensures.ran refl (λ x t q k. search rules) in
    simp (ne_eqb _ 0 (λ e. c.if-level-eq0.false (c.level.ensures ∙ e)), slots)
