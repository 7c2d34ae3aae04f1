-- The tests are the definition's own.
use Rattle.std.proofs.Common.{rules, refl, ◌*◌, ◌+◌, sym, ◌∙◌}
use borrow.Author.Tests.{ne_eqb}
use Rattle.floor.specs.View.{view_of}
use Rattle.numbers.proofs.Ranges.{all_ran}
use Rattle.rules.specs.Links.{step_ok, links_ok}
use Rattle.rules.proofs.links.LinkedMap.links_ok.Goals as goal

pub returns-else-level-eq0 : goal.returns-else-level-eq0
unfolding links_ok
returns-else-level-eq0 c =
    let v = view_of c.args.self.now.floor.bytes.now in
    let slots = all_ran (λ i. step_ok v (8 * c.args.n + i)) 8 c.all.ensures.ran refl (λ x t q k. search rules) in
    simp (sym c.if-named_ok.ensures, ne_eqb _ 0 (λ e. c.if-level-eq0.false (c.level.ensures ∙ e)), slots)
