-- What a read put after the bytes so far is what it took of the input.
use Rattle.std.proofs.Common.{◌≡◌, ℕ, ◌+◌, ◌-◌, ◌≤◌, List, ◌++◌, rules, length, take, drop, sym, ap, ◌∙◌, subst, le_refl, drop_at, length-take-le}
use Rattle.std.proofs.lemmas.Slice.{take-put_mid_below}
use Rattle.std.specs.Io.KnownBytes.{Consumes}
use Rattle.std.proofs.KnownBytes.{Consumes-trans}
use borrow.Rule.Slice.PartMut.{put_mid, post_of}
use lib.Seq.{take-add, take-append-le}
use Rattle.mapfile.proofs.read_full.Goals as goal

-- the bytes so far and those of one read stand one after the other
joined : (a n : ℕ) (xs ys : List ℕ) → a ≤ length xs → n ≤ length ys → take a xs ++ take n ys ≡ take (a + n) (put_mid a (length xs - a) xs ys)
joined a n xs ys within fits =
    let room = length xs - a in
    let new = put_mid a room xs ys in
    let front : take a new ≡ take a xs = take-put_mid_below _ _ _ _ _ (le_refl _) within in
    let part : take n (drop a new) ≡ take n ys =
    ap (take n) (drop_at (take a xs) (ys ++ post_of a room xs) a (length-take-le a xs within)) ∙ take-append-le n ys (post_of a room xs) fits in
    sym (take-add a n new ∙ (λ i. front i ++ part i))

pub loop-done-preserved : goal.loop-done-preserved
loop-done-preserved g c =
    let l = c.loop-done in
    let is = joined l.done c.in-Ok.n l.buffer c.read.new.buf l.invariant.1 c.in-Ok.ensures.bound.0 in
    (search rules, search rules, search rules, subst (Consumes _ _) is (Consumes-trans _ _ _ _ _ l.invariant.3 c.in-Ok.ensures.bytes.0))
