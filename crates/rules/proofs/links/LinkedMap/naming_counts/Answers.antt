-- Each count is that of the slots passed.
use Rattle.std.proofs.Common.{refl, ◌≡◌, ◌*◌, ◌+◌, ap, ◌∙◌, sym, arith}
use borrow.Author.Tests.{ne_eqb, eq-eqb}
use Rattle.numbers.specs.Below.{count_below}
use Rattle.floor.specs.View.{view_of}
use Rattle.rules.proofs.Counts.{none_counted, counted_at, counted_most, leaf_passed, unnamed_passed, named_counted}
use Rattle.rules.proofs.Linked.{link_inside}
use Rattle.rules.specs.Links.{names, named}
use Rattle.rules.proofs.links.LinkedMap.naming_counts.Goals as goal
use Rattle.rules.proofs.links.LinkedMap.naming_counts.Goals.{in-Some, in_default, then-level-ne0+else-loop-i-test, else-level-ne0}

pub loop-n-init : goal.loop-n-init
loop-n-init c = none_counted _

pub loop-i-init : goal.loop-i-init
loop-i-init c = counted_at _ _ (omega arith) c.loop-n.invariant

pub overflow_add-counts : goal.overflow_add-counts
overflow_add-counts c =
    let few = c.args.self.now.floor.shaped.few in
    record { fits = omega (arith, few, counted_most _ _ _ c.in-Some.child (omega (arith, c.in-Some.ensures.2)) c.loop-i.invariant) }

pub loop-i-preserved : goal.loop-i-preserved
loop-i-preserved c =
    let v = view_of c.args.self.now.floor.bytes.now in
    let j = 8 * c.loop-n.n + c.loop-i.i in
    let next : j + 1 ≡ 8 * c.loop-n.n + (c.loop-i.i + 1) = omega arith in
    let inner = ne_eqb _ 0 (λ e. c.if-level-ne0.true (c.level.ensures ∙ e)) in
    let filled = link_inside v j c.loop-n.n c.loop-i.i c.loop-i-test.true refl inner in
    counted_at v c.match-child.counts next
    (elim c.match-child.branch [
      | in-Some w ↦
          let e = w.in-Some.ensures in
          let few = c.args.self.now.floor.shaped.few in
          rw (w.counts-is, e.1) (named_counted v c.loop-i.counts j (filled ∙ e.0) (omega (arith, few, e.1, e.2)) c.loop-i.invariant)
      | in_default w ↦ rw w.counts-is (unnamed_passed v c.loop-i.counts j (filled ∙ w.in_default.ensures) c.loop-i.invariant)
    ])

pub loop-n-preserved : goal.loop-n-preserved
loop-n-preserved c =
    let v = view_of c.args.self.now.floor.bytes.now in
    elim c.if-level-ne0.branch [
      | then-level-ne0+else-loop-i-test w ↦
          let next : 8 * c.loop-n.n + w.loop-i.i ≡ 8 * (c.loop-n.n + 1) = omega arith in
          rw w.counts-is (counted_at v w.loop-i.counts next w.loop-i.invariant)
      | else-level-ne0 w ↦
          rw w.counts-is (leaf_passed v c.loop-n.counts c.loop-n.n (eq-eqb _ 0 (sym c.level.ensures ∙ w.if-level-ne0.false)) c.loop-n.invariant)
    ]

pub returns : goal.returns
unfolding named
returns c =
    let v = view_of c.args.self.now.floor.bytes.now in
    let l = c.loop-n in
    let few = c.args.self.now.floor.shaped.few in
    let all : 8 * l.n ≡ 8 * v.count = omega arith in
    λ t h. l.invariant.each t (omega arith) ∙ ap (count_below (names v t)) all
