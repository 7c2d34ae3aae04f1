-- After i turns the room holds the first i records.
use Rattle.std.proofs.Common.{◌≡◌, sym, ◌∙◌, arith}
use Rattle.floor.specs.View.{view_of}
use Rattle.record.specs.Record.{no_record}
use Rattle.record.proofs.Filling.{after_none, after_bay, after_zeros}
use Rattle.ask.specs.Told.{record_of, told_of}
use Rattle.ask.proofs.Filling.{told_length, told_at}
use Rattle.ask.proofs.page.write_page.Goals as goal
use Rattle.ask.proofs.page.write_page.Goals.{then-i-best, else-i-best}

pub loop-i-init : goal.loop-i-init
loop-i-init c =
    (c.requires.carried.high, c.requires.fits, after_none (told_of (view_of c.args.map.now.bytes.now) c.args.best.now) c.args.room.now)

pub loop-i-preserved : goal.loop-i-preserved
loop-i-preserved c =
    let l = c.loop-i in
    let v = view_of c.args.map.now.bytes.now in
    let held = c.requires.carried in
    let rs = told_of v c.args.best.now in
    let long = told_length v c.args.k c.args.best.now held in (
      l.invariant.0,
      l.invariant.1,
      rw (c.put_record.ensures, l.invariant.2)
          (elim c.if-i-best.branch [
            | then-i-best w ↦
                (let told = w.record_of-r.ensures ∙ sym (told_at v c.args.k c.args.best.now held l.i w.if-i-best.true) in
                rw (w.r-is, told) (after_bay rs c.args.room.now l.i (record_of v 0) (omega (arith, w.if-i-best.true)) (omega arith)))
            | else-i-best w ↦
                (let zero = w.default-r.ensures in
                let none : w.default-r.result ≡ no_record = λ i. record { bay = zero.0 i; zone = zero.1.0 i; far = record { 0 = zero.1.1 i } } in
                rw (w.r-is, none) (after_zeros rs c.args.room.now l.i (omega (arith, w.if-i-best.false)) (omega arith)))
          ]),
    )
