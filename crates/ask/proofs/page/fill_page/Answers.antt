-- What is found is what is told.
use Rattle.std.proofs.Common.{◌≡◌, List, length, sym, ap, ◌∙◌}
use Rattle.floor.specs.View.{view_of}
use Rattle.record.specs.declared.Record.{Record}
use Rattle.record.specs.Record.{room_with}
use Rattle.nearest.specs.Shown.{distance_to}
use Rattle.ask.specs.Told.{told_of, page_of}
use Rattle.ask.proofs.Filling.{told_length, told_page}
use Rattle.ask.proofs.page.fill_page.Goals as goal

pub returns : goal.returns
returns c =
    let v = view_of c.args.map.now in
    let q = c.args.q in
    let found = c.nearest-best.ensures in
    let is : told_of v c.nearest-best.result ≡ page_of c.args.map.now q =
    told_page v (distance_to v q.from) q c.nearest-best.result c.requires.search.ground.keeps found in
    record {
      count = sym (told_length v q.k c.nearest-best.result found.carried) ∙ ap length is;
      bytes = c.write_page.ensures ∙ ap (λ (rs : List Record). room_with q.k rs c.args.room.now) is;
    }
