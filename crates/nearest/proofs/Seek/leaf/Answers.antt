-- After i slots, the first i parts of the leaf are searched.
use Rattle.std.proofs.Common.{◌≡◌, ◌-◌, ◌<◌, ◌≤◌, sym, ap, ◌∙◌, inl, inr, take, arith}
use Rattle.order.specs.Order.{place, gather}
use Rattle.order.proofs.Only.{gather_more}
use Rattle.tree.specs.Under.{part_bays}
use Rattle.nearest.specs.declared.best.Best.{Best}
use Rattle.nearest.specs.Best.{sooner, listing}
use Rattle.nearest.specs.Searched.{Searched}
use Rattle.floor.specs.Seen.{seen}
use Rattle.nearest.specs.Sought.{away}
use Rattle.nearest.proofs.Sought.{count_few}
use Rattle.nearest.proofs.Offer.{part_sorted}
use Rattle.nearest.proofs.Searching.{searched_begun, searched_more}
use Rattle.nearest.proofs.Takes.{slot_left, slot_taken}
use Rattle.nearest.proofs.Seek.leaf.Goals.{then-takes, then-best-k, else-best-k, else-takes}
use Rattle.nearest.proofs.Seek.leaf.Goals as goal

pub loop-i-init : goal.loop-i-init
unfolding gather
loop-i-init c =
    let s = c.args.self.now in
    (omega (arith, count_few s, c.requires.inside), searched_begun (seen s.map) (away s) s.q c.args.best.now c.requires.carried)

pub sink-requires-clause-list : goal.sink-requires-clause-list
sink-requires-clause-list c =
    let l = c.loop-i in
    let held = l.invariant.1.carried in
    let same : c.if-best-k.best.keys ≡ l.best.keys =
    elim c.if-best-k.branch [
      | then-best-k w ↦ ap (λ (b : Best). b.keys) w.best-is
      | else-best-k w ↦ ap (λ (b : Best). b.keys) w.best-is
    ] in
    let up : c.if-best-k.best.len - 1 ≤ l.best.len =
    elim c.if-best-k.branch [
      | then-best-k w ↦ omega (arith, ap (λ (b : Best). b.len) w.best-is)
      | else-best-k w ↦ omega (arith, ap (λ (b : Best). b.len) w.best-is)
    ] in
    let small : c.if-best-k.best.len - 1 < 100 =
    elim c.if-best-k.branch [
      | then-best-k w ↦ omega (arith, held.high, w.if-best-k.true, ap (λ (b : Best). b.len) w.best-is)
      | else-best-k w ↦ omega (arith, held.low, held.high, held.fits, ap (λ (b : Best). b.len) w.best-is)
    ] in
    rw same (record {
      few = small;
      long = held.room;
      slots = held.slots;
      sorted = part_sorted (seen c.args.self.now.map) (c.if-best-k.best.len - 1) l.best.len l.best.keys up held.sorted;
    })

pub loop-i-preserved : goal.loop-i-preserved
loop-i-preserved c =
    let l = c.loop-i in
    let s = c.args.self.now in
    let v = seen s.map in
    let part = part_bays v 0 c.args.node in
    let held = l.invariant.1.carried in
    let turn : Searched v (away s) s.q (part l.i) (listing s.q.k l.best.keys l.best.len) (listing s.q.k c.if-takes.best.keys c.if-takes.best.len) =
    elim c.if-takes.branch [
      | then-takes w ↦
          (let same : w.if-best-k.best.keys ≡ l.best.keys =
          elim w.if-best-k.branch [
            | then-best-k g ↦ ap (λ (b : Best). b.keys) g.best-is
            | else-best-k g ↦ ap (λ (b : Best). b.keys) g.best-is
          ] in
          rw w.best-is
          (slot_taken v (away s) s.q c.args.node l.i l.best.keys l.best.len held _ w.if-best-k.best.len
          (sym c.takes.ensures ∙ w.if-takes.true) w.sink.ensures.long w.sink.ensures.slots
          (elim w.if-best-k.branch [
            | then-best-k g ↦ inl (g.if-best-k.true, ap (λ (b : Best). b.len) g.best-is)
            | else-best-k g ↦ inr (g.if-best-k.false, ap (λ (b : Best). b.len) g.best-is)
          ])
          (w.sink.ensures.placed
          ∙ λ i. place (sooner v) (w.key_at-new.ensures i) (take (w.if-best-k.best.len - 1) (same i)))))
      | else-takes w ↦
          rw w.best-is (slot_left v (away s) s.q c.args.node l.i l.best.keys l.best.len held (sym c.takes.ensures ∙ w.if-takes.false))
    ] in (
      l.invariant.0,
      rw (gather_more part l.i)
          (searched_more v (away s) s.q c.args.best.now (gather part l.i) (part l.i) (listing s.q.k l.best.keys l.best.len) (listing s.q.k c.if-takes.best.keys c.if-takes.best.len) l.invariant.1 turn),
    )
