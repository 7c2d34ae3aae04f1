-- The tests are the definition's own.
use Rattle.std.proofs.Common.{rules, refl, ◌*◌, ◌+◌, sym}
use Rattle.floor.specs.View.{view_of}
use Rattle.numbers.proofs.Ranges.{all_ran}
use Rattle.rules.specs.Form.{slot_ok, form_ok}
use Rattle.rules.proofs.form.form_ok.Goals as goal

pub returns-then-node_ok : goal.returns-then-node_ok
unfolding form_ok
returns-then-node_ok c =
    let v = view_of c.args.map.now.bytes.now in
    let slots = all_ran (λ i. slot_ok v (8 * c.args.n + i)) 8 c.all.ensures.ran refl (λ x t q k. search rules) in
    simp (sym c.if-node_ok.ensures, slots)
