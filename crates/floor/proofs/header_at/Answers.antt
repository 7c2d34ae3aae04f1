-- The header's eight bytes, taken apart.
use Rattle.std.proofs.Common.{ℕ, ap, sym, ◌∙◌, arith, nat_eq}
use Rattle.words.proofs.Reading.{le_byte, word_rest, le_small}
use Rattle.floor.specs.View.{view_of}
use Rattle.floor.proofs.header_at.Goals as goal

pub returns : goal.returns
unfolding view_of
returns c =
    let m = c.args.map.now in
    let b = c.type_inv.map in
    record {
      count = c.from.ensures ∙ c.read.ensures;
      root = c.from-2.ensures ∙ c.read-2.ensures;
      height = sym (le_byte m 4);
      clear = ap (λ (x : ℕ). nat_eq x 0) (word_rest m b 3 4 c.read-3.ensures);
      small = omega (arith, c.from.ensures, c.read.ensures, le_small m b 2 0);
    }
