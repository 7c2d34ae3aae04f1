-- The last four bytes of a slot, without the zone.
use Rattle.std.proofs.Common.{◌≡◌, ℕ, ◌+◌, ap, arith, nat_eq}
use Rattle.words.proofs.Reading.{word_rest}
use Rattle.floor.specs.Layout.{axis_count, zone_from, zeros_from}
use Rattle.floor.proofs.place.is_clear.Goals as goal

pub returns : goal.returns
returns c =
    let at = c.args.place + zone_from axis_count in
    let next : at + 1 ≡ c.args.place + zeros_from axis_count = omega arith in
    ap (λ (x : ℕ). nat_eq x 0) (rw next at (word_rest c.args.map.now c.type_inv.map 3 at c.read.ensures))
