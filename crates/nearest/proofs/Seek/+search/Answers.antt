-- By induction on the level: the slots that stand open in `ds` are still to be visited, and all others are searched.
use Rattle.std.proofs.Common.{◌≡◌, ℕ, ◌+◌, ◌-◌, ◌*◌, ◌<◌, Bool, true, ltb, leb, get_or, sym, ◌∙◌, length-set, arith}
use borrow.Author.Tests.{ltb-true}
use Rattle.std.proofs.lemmas.Bool.{and_parts}
use Rattle.tree.specs.Under.{part_bays}
use Rattle.tree.proofs.Tree.{keeps_treelike}
use Rattle.floor.specs.Seen.{seen}
use Rattle.nearest.specs.Sought.{away}
use Rattle.nearest.specs.Reach.{none, beyond, opened}
use Rattle.nearest.specs.Searched.{Searched}
use Rattle.nearest.proofs.Measured.{distance_grows}
use Rattle.nearest.proofs.Sought.{ground, count_few, small_there}
use Rattle.nearest.proofs.Visits.{fewer, marks_start, marks_next, child_there, child_level, part_down, visits_none, visits_one, visits_stop}
use Rattle.nearest.proofs.Seek.+search.Goals.{then-level-eq1, else-level-eq1}
use Rattle.nearest.proofs.Seek.+search.Goals as goal

-- a slot that is gone into is open
opened_there : (d worst : ℕ) {r : Bool} → r ≡ opened d worst → r ≡ true → ltb d beyond ≡ true
opened_there d worst e t = (and_parts (ltb d beyond) (leb d worst) (sym e ∙ t)).0

pub loop-ds-init : goal.loop-ds-init
loop-ds-init t c =
    let s = c.args.self.now in
    let v = seen s.map in
    let low : c.args.node < v.count = c.requires.inside in
    let g = c.gaps-ds.ensures in (
      g.long,
      c.least-j.ensures.0,
      omega (arith, count_few s),
      c.least-j.ensures.1,
      marks_start v (away s) c.args.node c.gaps-ds.result g,
      visits_none v (away s) s.q c.args.level c.args.node (ground s).keeps low c.requires.is_level
          (λ i h f. omega (arith, small_there s i h f)) c.gaps-ds.result c.args.best g c.requires.carried,
    )

pub leaf-requires-clause-inside : goal.leaf-requires-clause-inside
leaf-requires-clause-inside t c =
    let l = c.loop-ds in
    let s = c.args.self.now in
    let r = c.requires in
    let f = (l.invariant.4 l.j l.invariant.1 (opened_there (get_or l.ds l.j none).0 l.b.worst.0 c.opens.ensures c.loop-ds-test.true)).0 in
    rw c.reference-child.ensures
    (child_there (seen s.map) (keeps_treelike (ground s).keeps) c.args.level c.args.node l.j r.inside r.is_level r.above l.invariant.1 f)

pub search-b-requires : goal.search-b-requires
search-b-requires t c =
    let l = c.loop-ds in
    let s = c.args.self.now in
    let v = seen s.map in
    let r = c.requires in
    let tree = keeps_treelike (ground s).keeps in
    let up : 0 < c.args.level = r.above in
    let mea : c.args.level ≡ t = c.decreases in
    let ne : c.args.level ≡ 1 → ⊥ = c.if-level-eq1.false in
    let f = (l.invariant.4 l.j l.invariant.1 (opened_there (get_or l.ds l.j none).0 l.b.worst.0 c.opens.ensures c.loop-ds-test.true)).0 in (
      omega arith,
      (
        rw c.reference-child.ensures (child_there v tree c.args.level c.args.node l.j r.inside r.is_level up l.invariant.1 f),
        (rw c.reference-child.ensures (child_level v tree c.args.level c.args.node l.j r.inside r.is_level up l.invariant.1 f), (omega arith, l.invariant.5.carried)),
      ),
    )

pub loop-ds-smaller : goal.loop-ds-smaller
loop-ds-smaller t c =
    let l = c.loop-ds in
    fewer l.ds l.invariant.0 l.j l.invariant.1
    (ltb-true (get_or l.ds l.j none).0 beyond (opened_there (get_or l.ds l.j none).0 l.b.worst.0 c.opens.ensures c.loop-ds-test.true))

pub loop-ds-preserved : goal.loop-ds-preserved
loop-ds-preserved t c =
    let l = c.loop-ds in
    let s = c.args.self.now in
    let v = seen s.map in
    let r = c.requires in
    let keeps = (ground s).keeps in
    let level = c.args.level in
    let node = c.args.node in
    let j = l.j in
    let goes = opened_there (get_or l.ds j none).0 l.b.worst.0 c.opens.ensures c.loop-ds-test.true in
    let f = (l.invariant.4 j l.invariant.1 goes).0 in
    let down = part_down v (keeps_treelike keeps) level node j r.inside r.is_level r.above l.invariant.1 f in
    let child : c.reference-child.result ≡ v.ref (8 * node + j) = c.reference-child.ensures in
    let step : Searched v (away s) s.q (part_bays v level node j) l.b c.if-level-eq1.b =
    elim c.if-level-eq1.branch [
      | then-level-eq1 w ↦ (let one : level - 1 ≡ 0 = omega (arith, w.if-level-eq1.true) in rw (w.b-is, down, ← child, one) w.leaf.ensures)
      | else-level-eq1 w ↦ rw (w.b-is, down, ← child) w.search-b.ensures
    ] in (
      simp length-set l.invariant.0,
      c.least-j-in-loop-ds.ensures.0,
      l.invariant.2,
      c.least-j-in-loop-ds.ensures.1,
      marks_next v (away s) node l.ds j l.invariant.0 l.invariant.1 l.invariant.4,
      visits_one v (away s) s.q level node keeps r.inside r.is_level l.ds j c.args.best l.b c.if-level-eq1.b l.invariant.0 l.invariant.1 goes l.invariant.5 step,
    )

pub returns : goal.returns
returns t c =
    let l = c.loop-ds in
    let s = c.args.self.now in
    let v = seen s.map in
    let r = c.requires in
    let keeps = (ground s).keeps in
    visits_stop v (away s) s.q c.args.level c.args.node keeps r.inside r.is_level (distance_grows v keeps s.q.from) l.ds l.j c.args.best l.b l.invariant.4 l.invariant.3
    (sym c.opens.ensures ∙ c.loop-ds-test.false) l.invariant.5
