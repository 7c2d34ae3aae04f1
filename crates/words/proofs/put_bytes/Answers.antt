-- The bytes stand where they are copied to, in one piece.
use Rattle.std.proofs.Common.{◌≡◌, ◌+◌, ◌-◌, ◌≤◌, length, arith, append_assoc, length-take, length-drop}
use Rattle.std.proofs.Math.Seq.{drop-drop}
use Rattle.std.proofs.lemmas.List.Edits.{sets-eq}
use Rattle.words.proofs.put_bytes.Goals as goal

pub returns : goal.returns
returns g c =
    let long = simp (c.copy_from_slice.ensures.after, length-take, length-drop) at c.copy_from_slice.ensures.len in
    let fits : c.args.at + length c.args.word ≤ length c.args.bytes.now = omega arith in
    let count : c.args.at + g.row.N - c.args.at ≡ length c.args.word = omega arith in
    rw (c.copy_from_slice.ensures.after, sets-eq c.args.word c.args.bytes.now c.args.at fits, count, append_assoc, drop-drop)
