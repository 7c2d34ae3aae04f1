-- The key that the hint leads to has the number, and the one before it a lower one.
use Rattle.std.proofs.Common.{sym, ap, ◌∙◌, ◌<◌, ◌-◌, get_or, arith}
use Rattle.bays.specs.declared.sorted.Key.{Key}
use Rattle.bays.proofs.Search.{first_meets}
use Rattle.bays.proofs.sorted.Sorted.hinted.Goals as goal
use Rattle.bays.proofs.sorted.Sorted.hinted.Goals.{else-place-gt0-via-then-place-gt0+else-b-self, else-place-gt0-via-else-place-gt0}

pub returns : goal.returns
returns c =
    let keys = c.args.self.now.keys.now in
    let b = c.args.b in
    let none : Key = record { number = 0; entry = 0 } in
    let at = c.in_ok-key.ensures.lookup.3 in
    let place = c.from-place.result in
    let lower : 0 < place → (get_or keys (place - 1) none).number < b = elim c.else-place-gt0.branch [ else-place-gt0-via-then-place-gt0+else-b-self w ↦ λ p. w.if-b-self.false | else-place-gt0-via-else-place-gt0 w ↦ λ p. absurd (omega (arith, w.if-place-gt0.false, p)) ] in
    let here = ap (λ (k : Key). k.number) (sym (at.1 none)) ∙ c.if-key-b.false in
    ap (λ (k : Key). k.entry) (at.1 none) ∙ sym (first_meets b keys place none c.args.self.now.in_order at.0 here lower)
