-- The badge's whole list: exactly the visible bays, in strict order, each bay once, and the same for
-- maps that show the same bays. Assumes nothing.
use Prim.Native.Nat.{ℕ, ◌/◌, ◌<◌}
use native.Mathlib.Omega.{arith}
use mathlib.Core.Path.{◌≡◌, refl, sym, ap, ◌∙◌}
use mathlib.Core.List.Memᴰ
use mathlib.Core.List.{List, [], ◌∷◌, map, map-map, Memᴰ}
use mathlib.Core.Bool.{true, true≢false}
use lib.ListN.{length, length-map}
use Rattle.std.proofs.lemmas.Bool.{and_parts}
use Rattle.measure.specs.declared.Point.{Point}
use Rattle.floor.specs.View.{View, view_of, leaf, filled}
use Rattle.rules.specs.declared.Rule.TheVariants.{Bays}
use Rattle.rules.specs.Verdicts.{Keeps}
use Rattle.tree.specs.Flat.{all_bays}
use Rattle.tree.proofs.Tree.{keeps_treelike, entry, bays_apart}
use Rattle.tree.proofs.Spanning.{flat_once, flat_bays}
use Rattle.order.specs.Order.{only, sort, Strict, Distinct, Once}
use Rattle.order.proofs.Place.{lt_self}
use Rattle.order.proofs.Only.{only_out, only_all}
use Rattle.order.proofs.Parts.{only_once}
use Rattle.order.proofs.Sorting.{sort_in, sort_out, sort_strict, sort_length}
use Rattle.order.proofs.Swap.{sort_same}
use Rattle.order.proofs.Mapped.{by_order, sort_map, map_same, once_distinct}
use Rattle.record.specs.declared.Record.{Record}
use Rattle.question.specs.Mark.{before, start}
use Rattle.question.proofs.Before.{in_order, told_apart, after_start}
use Rattle.nearest.specs.Shown.{mark_at, distance_to, shown_at, whole_list}
use Rattle.nearest.proofs.Keyed.{BaySlot}
use Rattle.nearest.proofs.Listed.{whole_bay}
use Rattle.ask.specs.Told.{record_at, mark_of}
use Rattle.ask.specs.Reply.{accepted}
use Rattle.ask.proofs.Replies.{accepted_keeps}
use Rattle.demands.specs.Visible.{Bay, bay_at, visible, seen_from, SameBays}
use Rattle.demands.specs.Demands.{list_on, earlier, numbers_of}

module _ (m : List ℕ) (badge : ℕ) (point : Point) where
  abbrev v : View
  v = view_of m

  abbrev told : ℕ → Record
  told = record_at v (distance_to v point)

  abbrev shown : List ℕ
  shown = only (shown_at v badge) (all_bays v)

  told_seen : map told shown ≡ map (seen_from point) (visible badge m)
  unfolding visible
  told_seen = sym (map-map (seen_from point) (bay_at v) shown)

  whole_is : list_on m badge point ≡ sort earlier (map (seen_from point) (visible badge m))
  unfolding whole_list
  whole_is = sort_map told earlier shown ∙ ap (sort earlier) told_seen

  pub whole_in : (b : Bay) → Memᴰ b (visible badge m) → Memᴰ (seen_from point b) (list_on m badge point)
  whole_in b i = rw whole_is (sort_in earlier (seen_from point b) (map (seen_from point) (visible badge m)) (Memᴰ.map (seen_from point) i))

  pub whole_out : (r : Record) → Memᴰ r (list_on m badge point) → (b : Bay) × Memᴰ b (visible badge m) × (seen_from point b ≡ r)
  whole_out r i =
      Memᴰ.of_map (seen_from point) (visible badge m) (sort_out earlier r (map (seen_from point) (visible badge m)) (rw whole_is at i))

  pub whole_length : length (list_on m badge point) ≡ length (visible badge m)
  whole_length =
      ap length whole_is ∙ sort_length earlier (map (seen_from point) (visible badge m)) ∙ length-map (visible badge m) (seen_from point)

  -- a record of the list is that of a bay's slot
  from_slot : (r : Record) → Memᴰ r (list_on m badge point) → (j : ℕ) × BaySlot v j × (told j ≡ r)
  from_slot r i =
      let w = Memᴰ.of_map told (whole_list v (distance_to v point) badge) i in
      (w.0, whole_bay v (distance_to v point) badge w.0 w.1, w.2)

-- a bay has a number and a zone, by the form rule
bay_form : (v : View) → Keeps v → (j : ℕ) → BaySlot v j → (v.ref j ≡ 0 → ⊥) × (v.zone j < 32)
bay_form v keeps j b =
    let p = and_parts (leaf v (j / 8)) (filled v j) b.1 in
    (entry v (keeps_treelike keeps) j b.0 p.1).refer.bay p.0

-- ---- of an accepted map

module _ (m : List ℕ) (yes : accepted m ≡ true) (badge : ℕ) (point : Point) where
  abbrev here : View
  here = view_of m

  abbrev d : ℕ → ℕ
  d = distance_to here point

  keeps : Keeps here
  keeps = accepted_keeps m yes

  distinct : Distinct earlier (map (seen_from point) (visible badge m))
  distinct =
      rw (told_seen m badge point) at
      (once_distinct (record_at here d) earlier (only (shown_at here badge) (all_bays here)) (only_once (shown_at here badge) (all_bays here) (flat_once here))
      (λ i j h k ne. let a = flat_bays here i (only_out (shown_at here badge) i (all_bays here) h).0 in
      let b = flat_bays here j (only_out (shown_at here badge) j (all_bays here) k).0 in
      told_apart (mark_at here d i) (mark_at here d j) (λ e. ne (bays_apart here (keeps.rules Bays) i j a.0 b.0 a.1 b.1 e))))

  pub whole_strict : Strict earlier (list_on m badge point)
  whole_strict = rw (whole_is m badge point) (sort_strict earlier (by_order mark_of before in_order) (map (seen_from point) (visible badge m)) distinct)

  -- the start excludes nothing, for no bay number is 0
  pub from_start : only (λ (r : Record). before start (mark_of r)) (list_on m badge point) ≡ list_on m badge point
  from_start = only_all (λ (r : Record). before start (mark_of r)) (list_on m badge point) (λ r i. after_start (mark_of r) (numbered r i))
    where
      numbered : (r : Record) → Memᴰ r (list_on m badge point) → 0 < r.bay
      numbered r i =
          let s = from_slot m badge point r i in
          let ne : here.ref s.0 ≡ 0 → ⊥ = (bay_form here keeps s.0 s.1).0 in
          rw (← s.2) (omega arith)

  pub whole_once : Once (numbers_of (list_on m badge point))
  unfolding Strict Once
  whole_once = go (list_on m badge point) whole_strict same_bay
    where
      same_bay : (x y : Record) → Memᴰ x (list_on m badge point) → Memᴰ y (list_on m badge point) → x.bay ≡ y.bay → x ≡ y
      same_bay x y i j q =
          let s = from_slot m badge point x i in
          let t = from_slot m badge point y j in
          let numbers : here.ref s.0 ≡ here.ref t.0 = ap (λ (r : Record). r.bay) s.2 ∙ q ∙ ap (λ (r : Record). r.bay) (sym t.2) in
          let slots : s.0 ≡ t.0 = bays_apart here (keeps.rules Bays) s.0 t.0 s.1.0 t.1.0 s.1.1 t.1.1 numbers in
          sym s.2 ∙ ap (record_at here d) slots ∙ t.2

      go : (l : List Record) → Strict earlier l → ((x y : Record) → Memᴰ x l → Memᴰ y l → x.bay ≡ y.bay → x ≡ y) → Once (numbers_of l)
      go [] s h = tt
      go (x ∷ xs) s h = (
        (λ n. let w = Memᴰ.of_map (λ (r : Record). r.bay) xs n in
            true≢false
            (sym (s.0 w.0 w.1) ∙ ap (earlier x) (sym (h x w.0 (Memᴰ.head refl) (Memᴰ.tail w.1) (sym w.2))) ∙ lt_self earlier (by_order mark_of before in_order) x)),
        go xs s.1 (λ a b i j. h a b (Memᴰ.tail i) (Memᴰ.tail j)),
      )

-- maps that show the same bays have one whole list
pub whole_same : (m n : List ℕ) (badge : ℕ) (point : Point) → accepted m ≡ true → accepted n ≡ true → SameBays badge m n
    → list_on m badge point ≡ list_on n badge point
whole_same m n badge point ok also same =
    whole_is m badge point
    ∙ sort_same earlier (by_order mark_of before in_order) (map (seen_from point) (visible badge m)) (map (seen_from point) (visible badge n)) (distinct m ok badge point) (distinct n also badge point)
    (map_same (seen_from point) (visible badge m) (visible badge n) same)
    ∙ sym (whole_is n badge point)
