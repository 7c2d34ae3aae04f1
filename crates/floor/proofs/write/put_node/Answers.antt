-- The head, then slot after slot.
use Rattle.std.proofs.Common.{◌≡◌, refl, ◌+◌, false, length, pos, arith, rules}
use Rattle.floor.specs.declared.Slot.{Slot}
use Rattle.floor.specs.Layout.{head_size, node_at}
use Rattle.floor.specs.Written.{slots_bytes}
use Rattle.floor.proofs.Laid.{slots_more, node_laid}
use Rattle.floor.proofs.write.put_node.Goals as goal

-- what an array of slots is read as past its end
abbrev empty : Slot
empty =
    record {
      bounds = record { x = record { low = pos 0; high = pos 0 }; y = record { low = pos 0; high = pos 0 } };
      reference = 0;
      zone = 0;
      clear = false;
    }

pub loop-i-init : goal.loop-i-init
unfolding slots_bytes
loop-i-init c =
    let eight : length c.args.slots ≡ 8 = search rules in
    record {
      most = omega arith;
      few = c.requires.few;
      eight = eight;
      inside = omega (arith, c.put_head.auto.map, c.requires.inside);
      is = refl;
    }

pub loop-i-preserved : goal.loop-i-preserved
loop-i-preserved c =
    let inv = c.loop-i.invariant in
    let from = node_at c.args.n + head_size in
    record {
      most = omega arith;
      few = inv.few;
      eight = inv.eight;
      inside = omega (arith, c.put_at.auto.map, inv.inside);
      is =
          slots_more c.put_head.new.map from c.args.slots c.loop-i.i c.slot_place.result empty c.loop-i.map
          (omega (arith, inv.eight)) (omega (arith, inv.few)) inv.is c.put_at.ensures;
    }

pub returns : goal.returns
returns c =
    let inv = c.loop-i.invariant in
    node_laid c.args.map.now c.args.n c.args.level c.args.occupied c.args.slots c.loop-i.i
    c.put_head.ensures (omega (arith, inv.most)) inv.is
