-- What is left of the walk gives what the whole gives.
use Rattle.std.proofs.Common.{◌≡◌, ◌+◌, ◌-◌, sym, ap, ◌∙◌, arith}
use Rattle.floor.specs.View.{view_of}
use Rattle.bays.specs.Certificate.{entry_ref, walk_of}
use Rattle.bays.proofs.Search.{walk_ends, walk_meets, walk_goes}
use Rattle.bays.proofs.hashed.HashedIndex.find.Goals as goal

pub returns-then-entry-own : goal.returns-then-entry-own
returns-then-entry-own c =
    let v = view_of c.args.map.now.bytes.now in
    let l = c.loop-i in
    let there = c.if-entry-own.true in
    let hit = ap (entry_ref v) there ∙ c.requires.1 in
    sym (l.invariant.1 ∙ walk_meets v _ _ _ (64 - l.i) (omega arith) (λ z. omega (arith, there, z, c.requires.0)) hit ∙ there)

pub returns-then-entry-eq0 : goal.returns-then-entry-eq0
returns-then-entry-eq0 c =
    let l = c.loop-i in
    sym (l.invariant.1 ∙ walk_ends _ _ _ _ (64 - l.i) (omega arith) c.if-entry-eq0.true)

pub returns-then-entry_ref-b : goal.returns-then-entry_ref-b
returns-then-entry_ref-b c =
    let l = c.loop-i in
    sym (l.invariant.1 ∙ walk_meets _ _ _ _ (64 - l.i) (omega arith) c.if-entry-eq0.false (sym c.entry_ref.ensures ∙ c.if-entry_ref-b.true))

pub loop-i-preserved : goal.loop-i-preserved
loop-i-preserved c =
    let l = c.loop-i in
    let turn = walk_goes _ c.args.self.now.table c.args.b l.at (64 - l.i) (omega arith) c.if-entry-eq0.false (λ e. c.if-entry_ref-b.false (c.entry_ref.ensures ∙ e)) in
    let less : 64 - l.i - 1 ≡ 64 - (l.i + 1) = omega arith in
    (omega arith, l.invariant.1 ∙ (rw less at turn))

pub returns : goal.returns
unfolding walk_of
returns c =
    let l = c.loop-i in
    let none : 64 - l.i ≡ 0 = omega arith in
    sym (rw none at l.invariant.1)
