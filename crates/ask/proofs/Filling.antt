-- The records of a best list, one by one, and those of a list that was found: the page's. Assumes nothing.
use mathlib.Core.Path.{◌≡◌, ap, ◌∙◌}
use mathlib.Core.List.{map}
use Prim.Native.Nat.{ℕ, ◌<◌}
use native.Mathlib.Omega.{arith}
use lib.ListN.{length, get_or, length-map, get_or-map}
use lib.Seq.{length-take-le, get_or-take}
use Rattle.floor.specs.View.{View}
use Rattle.rules.specs.Verdicts.{Keeps}
use Rattle.order.proofs.Mapped.{map_agree}
use Rattle.question.specs.declared.Question.{Question}
use Rattle.nearest.specs.declared.best.Best.{Best}
use Rattle.nearest.specs.Shown.{page}
use Rattle.nearest.specs.Best.{key_of, keys_of, Carried}
use Rattle.nearest.specs.Searched.{Found}
use Rattle.nearest.proofs.Keys.{slot_back, far_back}
use Rattle.nearest.proofs.Keyed.{slot_low}
use Rattle.nearest.proofs.Listed.{page_bay}
use Rattle.ask.specs.Told.{record_at, record_of, told_of}

module _ (v : View) (k : ℕ) (best : Best) (held : Carried v k best) where
  pub told_length : length (told_of v best) ≡ best.len
  told_length =
      length-map (keys_of best) (record_of v) ∙ length-take-le best.len best.keys (omega (arith, held.high, held.room, held.fits))

  pub told_at : (i : ℕ) → i < best.len → get_or (told_of v best) i (record_of v 0) ≡ record_of v (get_or best.keys i 0)
  told_at i h = get_or-map (record_of v) (keys_of best) i 0 ∙ ap (record_of v) (get_or-take best.len best.keys i 0 h)

-- what is told of a list that was found is the page
pub told_page : (v : View) (distance : ℕ → ℕ) (q : Question) (best : Best) → Keeps v → Found v distance q best
    → told_of v best ≡ map (record_at v distance) (page v distance q.badge.0 q.mark q.k)
told_page v distance q best keeps f =
    ap (map (record_of v)) f.is
    ∙ map_agree (key_of distance) (record_of v) (record_at v distance) (page v distance q.badge.0 q.mark q.k)
    (λ j m. let low = slot_low v keeps distance j (page_bay v distance q.badge.0 q.mark q.k j m).0 in
    rw (slot_back distance j low, far_back distance j low))
