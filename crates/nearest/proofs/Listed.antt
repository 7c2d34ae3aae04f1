-- The slots of the whole list and of a page: they are those of bays that the badge is shown, each once. Assumes nothing.
use Prim.Native.Nat.{ℕ}
use mathlib.Core.List.{Memᴰ}
use Rattle.floor.specs.View.{View}
use Rattle.tree.specs.Flat.{all_bays}
use Rattle.tree.proofs.Spanning.{flat_bays}
use Rattle.order.specs.Order.{only}
use Rattle.order.proofs.Only.{only_out}
use Rattle.order.proofs.Kept.{take_out}
use Rattle.order.proofs.Sorting.{sort_out}
use Rattle.question.specs.declared.mark.Mark.{Mark}
use Rattle.nearest.specs.Shown.{earlier, shown_at, after_mark, whole_list, page}
use Rattle.nearest.proofs.Keyed.{BaySlot}

module _ (v : View) (distance : ℕ → ℕ) (badge : ℕ) where
  pub whole_bay : (j : ℕ) → Memᴰ j (whole_list v distance badge) → BaySlot v j
  unfolding whole_list
  whole_bay j m =
      flat_bays v j (only_out (shown_at v badge) j (all_bays v) (sort_out (earlier v distance) j (only (shown_at v badge) (all_bays v)) m)).0

  pub page_bay : (mark : Mark) (k j : ℕ) → Memᴰ j (page v distance badge mark k) → BaySlot v j
  unfolding page
  page_bay mark k j m =
      whole_bay j
      (only_out (after_mark v distance mark) j (whole_list v distance badge) (take_out k (only (after_mark v distance mark) (whole_list v distance badge)) j m)).0
