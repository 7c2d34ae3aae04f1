-- A root that is a leaf, or a search from the root.
use Rattle.std.proofs.Common.{◌≡◌, sym, ◌∙◌, arith}
use Rattle.floor.specs.View.{view_of}
use Rattle.nearest.specs.Shown.{distance_to}
use Rattle.nearest.proofs.Start.{no_bays_carried, root_found}
use Rattle.nearest.proofs.search.nearest.Goals as goal

pub leaf-requires-clause-carried : goal.leaf-requires-clause-carried
leaf-requires-clause-carried c =
    rw c.new-best.ensures (no_bays_carried (view_of c.args.map.now.bytes.now) c.args.q.k c.args.map.now.shaped c.requires.k_low c.requires.k_high)

pub returns-then-top-eq0 : goal.returns-then-top-eq0
returns-then-top-eq0 c =
    let q = c.args.q in
    let v = view_of c.args.map.now.bytes.now in
    root_found v (distance_to v q.from) q c.root-root.result 0 c.new-best.result _ c.requires.ground.keeps
    c.root-root.ensures (sym c.if-top-eq0.true ∙ c.level-top.ensures) c.new-best.ensures c.leaf.ensures

pub search-requires : goal.search-requires
search-requires c =
    let v = view_of c.args.map.now.bytes.now in
    let ne : c.level-top.result ≡ 0 → ⊥ = c.if-top-eq0.false in
    record {
      inside = rw c.root-root.ensures c.args.map.now.shaped.rooted;
      is_level = sym c.level-top.ensures;
      above = omega arith;
      carried = rw c.new.ensures (no_bays_carried v c.args.q.k c.args.map.now.shaped c.requires.k_low c.requires.k_high);
    }

pub returns : goal.returns
returns c =
    let q = c.args.q in
    let v = view_of c.args.map.now.bytes.now in
    root_found v (distance_to v q.from) q c.root-root.result c.level-top.result c.new.result c.search.result c.requires.ground.keeps
    c.root-root.ensures c.level-top.ensures c.new.ensures c.search.ensures
