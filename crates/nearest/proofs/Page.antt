-- A page is what is kept of the bays below the root, in whatever turn they come. Over any measure. Assumes nothing.
use Prim.Native.Nat.{ℕ, ◌<◌}
use mathlib.Core.Path.{◌≡◌, refl, ap, ◌∙◌}
use mathlib.Core.List.Memᴰ
use mathlib.Core.List.{List, [], map, Memᴰ}
use Rattle.floor.specs.View.{View}
use Rattle.rules.specs.Verdicts.{Keeps}
use Rattle.tree.specs.Flat.{all_bays}
use Rattle.tree.specs.Under.{node_bays}
use Rattle.tree.specs.Treelike.{Treelike}
use Rattle.tree.proofs.Tree.{keeps_treelike}
use Rattle.tree.proofs.Spanning.{from_node, node_once, flat_once, flat_bays, spanning}
use Rattle.order.specs.Order.{keep_all, only}
use Rattle.order.proofs.Only.{only_out, only_both}
use Rattle.order.proofs.Sorting.{only_keep}
use Rattle.order.proofs.Swap.{keep_same}
use Rattle.order.proofs.Mapped.{by_order, keep_agree}
use Rattle.question.specs.declared.Question.{Question}
use Rattle.question.specs.Mark.{before}
use Rattle.question.proofs.Before.{in_order}
use Rattle.nearest.specs.Shown.{mark_at, earlier, shown_at, after_mark, whole_list, page}
use Rattle.nearest.specs.Asked.{wanted_by}
use Rattle.nearest.specs.Best.{key_of, sooner}
use Rattle.nearest.specs.Searched.{wanted_keys}
use Rattle.nearest.proofs.Keys.{sooner_is, sooner_order}
use Rattle.nearest.proofs.Keyed.{BaySlot, slot_low, keys_same, keys_distinct}

module _ (v : View) (keeps : Keeps v) (distance : ℕ → ℕ) (q : Question) where
  abbrev page_slots : List ℕ
  page_slots = page v distance q.badge.0 q.mark q.k

  abbrev reached : List ℕ
  reached = node_bays v (v.level v.root) v.root

  tree : Treelike v
  tree = keeps_treelike keeps

  reached_bay : (j : ℕ) → Memᴰ j reached → BaySlot v j
  reached_bay j m = let o = from_node v tree (v.level v.root) v.root tree.rooted refl j m in (o.inside, o.is_bay)

  -- the keys of the page, of all bays
  flat_keys : map (key_of distance) page_slots ≡ keep_all (sooner v) q.k (wanted_keys v distance q (all_bays v)) []
  unfolding page whole_list wanted_keys
  flat_keys =
      ap (map (key_of distance))
      (only_keep (earlier v distance) (by_order (mark_at v distance) before in_order) q.k (shown_at v q.badge.0) (after_mark v distance q.mark) (all_bays v)
      ∙ ap (λ (l : List ℕ). keep_all (earlier v distance) q.k l []) (only_both (shown_at v q.badge.0) (after_mark v distance q.mark) (all_bays v)))
      ∙ keep_agree (key_of distance) (earlier v distance) (sooner v) (λ j. j < 2048) (sooner_is v distance) q.k (only (wanted_by v distance q) (all_bays v)) []
      (λ j m. slot_low v keeps distance j (flat_bays v j (only_out (wanted_by v distance q) j (all_bays v) m).0).0)
      (λ j m. absurd (Memᴰ.not-nil m))

  pub page_below : map (key_of distance) page_slots ≡ keep_all (sooner v) q.k (wanted_keys v distance q reached) []
  page_below =
      flat_keys
      ∙ keep_same (sooner v) (sooner_order v) q.k (wanted_keys v distance q (all_bays v)) (wanted_keys v distance q reached) []
      (keys_distinct v keeps distance q (all_bays v) (flat_once v) (flat_bays v))
      (keys_distinct v keeps distance q reached (node_once v tree (v.level v.root) v.root tree.rooted refl) reached_bay)
      (keys_same v distance q (all_bays v) reached (spanning v tree))
