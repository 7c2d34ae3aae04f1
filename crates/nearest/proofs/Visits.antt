-- The slots of a node above the leaves, visited in any turn: which were taken in is told by an array of distances, where
-- a slot that was visited stands beyond all. Over any measure that never falls when a box shrinks. Assumes nothing.
use Prim.Native.Nat.{ℕ, suc, ◌+◌, ◌*◌, ◌-◌, ◌/◌, ◌<◌, ◌≤◌}
use native.Mathlib.Omega.{arith}
use native.Mathlib.Decide.{ℕ_discrete}
use mathlib.Core.Path.{◌≡◌, sym, ap, ◌∙◌}
use mathlib.Core.List.{List, []}
use mathlib.Core.Bool.{Bool, true, false, true≢false}
use lib.Dec.{leb, ltb}
use lib.ListN.{length, get_or, set}
use lib.Seq.{get_or-set_same, get_or-set_other, length-take-le, get_or-take}
use borrow.Author.Tests.{ltb-true, ltb-false, lt-ltb, le-ltb, leb-true, leb-false}
use Rattle.numbers.specs.Below.{count_below}
use Rattle.numbers.proofs.Below.{count_less}
use Rattle.measure.specs.declared.HowFar.{HowFar}
use Rattle.floor.specs.View.{View, filled}
use Rattle.rules.specs.Verdicts.{Keeps}
use Rattle.tree.specs.Treelike.{Treelike}
use Rattle.tree.proofs.Tree.{link_leads}
use Rattle.tree.specs.Under.{slot_bays, part_bays, node_bays}
use Rattle.tree.proofs.Spanning.{slot_link, fallen}
use Rattle.order.specs.Order.{Cross, keep_all, gather}
use Rattle.order.proofs.Place.{by_test}
use Rattle.order.proofs.Only.{gather_through}
use Rattle.order.proofs.Visits.{taken}
use Rattle.order.proofs.Turns.{turns_none, turns_one, turns_stop, turns_end}
use Rattle.question.specs.declared.Question.{Question}
use Rattle.question.proofs.Before.{farther_waits}
use Rattle.nearest.specs.declared.best.Best.{Best}
use Rattle.nearest.specs.Best.{far_in, mark_in, sooner, keys_of, Carried}
use Rattle.nearest.specs.Reach.{none, beyond, gap_of, Reach, opened}
use Rattle.nearest.specs.Searched.{Kept, wanted_keys, Searched}
use Rattle.nearest.proofs.Keys.{sooner_order}
use Rattle.nearest.proofs.Measured.{Grows}
use Rattle.nearest.proofs.Keyed.{keys_cross, keys_far}
use Rattle.nearest.proofs.Searching.{keys_nil, keys_append}

-- what marks a slot as visited
abbrev pub done : HowFar
done = record { 0 = beyond }

-- whether slot i is still to be visited
abbrev pub open_at : List HowFar → ℕ → Bool
open_at ds i = ltb (get_or ds i none).0 beyond

-- a slot that is marked as visited
module _ (ds : List HowFar) (long : length ds ≡ 8) (j : ℕ) (hj : j < 8) where
  shut_here : open_at (set ds j done) j ≡ false
  shut_here = rw (get_or-set_same ds j done none (omega arith)) (le-ltb beyond beyond (omega arith))

  open_there : (i : ℕ) → i < 8 → (i ≡ j → ⊥) → open_at (set ds j done) i ≡ open_at ds i
  open_there i hi ne = rw (get_or-set_other ds j i done none ne)

  pub fewer : (get_or ds j none).0 < beyond → count_below (open_at (set ds j done)) 8 < count_below (open_at ds) 8
  fewer h = count_less (open_at ds) (open_at (set ds j done)) 8 j hj (lt-ltb (get_or ds j none).0 beyond h) shut_here open_there

-- each slot still to be visited is filled, and stands at its distance
abbrev pub Marks : View → (ℕ → ℕ) → ℕ → List HowFar → Type 0
Marks v distance node ds =
    (i : ℕ) → i < 8 → open_at ds i ≡ true → (filled v (8 * node + i) ≡ true) × ((get_or ds i none).0 ≡ distance (8 * node + i))

module _ (v : View) (distance : ℕ → ℕ) (node : ℕ) (ds : List HowFar) where
  pub marks_next : (j : ℕ) → length ds ≡ 8 → j < 8 → Marks v distance node ds → Marks v distance node (set ds j done)
  marks_next j long hj k i hi h =
      elim (ℕ_discrete i j) [
        | yes e ↦ absurd (true≢false (sym h ∙ ap (open_at (set ds j done)) e ∙ shut_here ds long j hj))
        | no ne ↦ rw (get_or-set_other ds j i done none ne) (k i hi (sym (open_there ds long j hj i hi ne) ∙ h))
      ]

  pub marks_start : Reach v distance node ds → Marks v distance node ds
  unfolding gap_of
  marks_start r i hi h =
      by_test (filled v (8 * node + i))
      (λ f. (f, r.is i hi ∙ rw f))
      (λ f. let g : (get_or ds i none).0 ≡ beyond = r.is i hi ∙ rw f in absurd (omega (arith, g, ltb-true (get_or ds i none).0 beyond h)))

-- a filled slot above the leaves leads down to a node of the level below, and brings what is below that node
module _ (v : View) (tree : Treelike v) (l node i : ℕ) (hn : node < v.count) (lev : v.level node ≡ l) (up : 0 < l) (hi : i < 8)
    (f : filled v (8 * node + i) ≡ true) where
  at_level : v.level ((8 * node + i) / 8) ≡ suc (l - 1)
  at_level = let here : (8 * node + i) / 8 ≡ node = omega arith in ap v.level here ∙ lev ∙ (omega arith)

  pub child_there : v.ref (8 * node + i) < v.count
  child_there = link_leads v tree (8 * node + i) (omega arith) (slot_link v tree (8 * node + i) (l - 1) at_level f)

  pub child_level : v.level (v.ref (8 * node + i)) ≡ l - 1
  child_level =
      fallen v tree (8 * node + i) (l - 1) (omega arith) at_level (slot_link v tree (8 * node + i) (l - 1) at_level f)

  pub part_down : part_bays v l node i ≡ node_bays v (l - 1) (v.ref (8 * node + i))
  unfolding slot_bays
  part_down = let e : l ≡ suc (l - 1) = omega arith in rw f (ap (λ (k : ℕ). slot_bays v k (8 * node + i)) e)

-- no filled slot is beyond all
abbrev pub Short : View → (ℕ → ℕ) → Type 0
Short v distance = (j : ℕ) → j < 8 * v.count → filled v j ≡ true → distance j < beyond

-- the slots of a node that are shut in ds have been searched
module _ (v : View) (distance : ℕ → ℕ) (q : Question) (l node : ℕ) where
  abbrev part : ℕ → List ℕ
  part i = wanted_keys v distance q (part_bays v l node i)

  abbrev pub Visited : List HowFar → Best → Best → Type 0
  Visited ds b r = Kept v q.k (gather (taken (open_at ds) part) 8) b r

  -- what a node brings, part by part
  by_parts : wanted_keys v distance q (node_bays v l node) ≡ gather part 8
  by_parts = gather_through (wanted_keys v distance q) (keys_nil v distance q) (keys_append v distance q) (part_bays v l node) 8

  module _ (keeps : Keeps v) (hn : node < v.count) (lev : v.level node ≡ l) where
    cross : (i j : ℕ) → i < 8 → j < 8 → (i ≡ j → ⊥) → Cross (sooner v) (part i) (part j)
    cross = keys_cross v keeps distance q l node hn lev

    -- at the start none is taken in
    pub visits_none : Short v distance → (ds : List HowFar) (b : Best) → Reach v distance node ds → Carried v q.k b → Visited ds b b
    unfolding gap_of
    visits_none short ds b r c = record { carried = c; is = turns_none (sooner v) (sooner_order v) q.k 8 part cross (open_at ds) (keys_of b) shut }
      where
        shut : (i : ℕ) → i < 8 → (open_at ds i ≡ true → ⊥) → part i ≡ []
        shut i p no' =
            by_test (filled v (8 * node + i))
            (λ f. let is : (get_or ds i none).0 ≡ distance (8 * node + i) = r.is i p ∙ rw f in
            absurd (no' (lt-ltb (get_or ds i none).0 beyond (omega (arith, is, short (8 * node + i) (omega arith) f)))))
            (λ f. rw f (keys_nil v distance q))

    -- one more
    pub visits_one : (ds : List HowFar) (j : ℕ) (b c r : Best) → length ds ≡ 8 → j < 8 → open_at ds j ≡ true
        → Visited ds b c → Searched v distance q (part_bays v l node j) c r → Visited (set ds j done) b r
    visits_one ds j b c r long hj h one two =
        record {
          carried = two.carried;
          is =
              turns_one (sooner v) (sooner_order v) q.k 8 part cross (open_at ds) (open_at (set ds j done)) j (keys_of b) (keys_of c) (keys_of r) hj h
              (shut_here ds long j hj)
              (open_there ds long j hj)
              one.is
              two.is;
        }

    -- the nearest that is left is not gone into: nothing is left, or all that is left is strictly farther than the kth
    pub visits_stop : Grows v distance → (ds : List HowFar) (j : ℕ) (b c : Best) → Marks v distance node ds
        → ((i : ℕ) → i < 8 → (get_or ds j none).0 ≤ (get_or ds i none).0) → opened (get_or ds j none).0 c.worst.0 ≡ false
        → Visited ds b c → Searched v distance q (node_bays v l node) b c
    visits_stop grows ds j b c marks low shut one = record { carried = held; is = by_test (open_at ds j) stop none_left ∙ ap (λ (t : List ℕ). keep_all (sooner v) q.k t (keys_of b)) (sym by_parts) }
      where
        held : Carried v q.k c
        held = one.carried

        none_left : open_at ds j ≡ false → keys_of c ≡ keep_all (sooner v) q.k (gather part 8) (keys_of b)
        none_left t =
            turns_end (sooner v) (sooner_order v) q.k 8 part cross (open_at ds) (keys_of b) (keys_of c)
            (λ i p. le-ltb (get_or ds i none).0 beyond (omega (arith, low i p, ltb-false (get_or ds j none).0 beyond t)))
            one.is

        full : (past : c.worst.0 < (get_or ds j none).0) → q.k ≤ c.len → c.worst.0 ≡ far_in (get_or c.keys (q.k - 1) 0)
            → keys_of c ≡ keep_all (sooner v) q.k (gather part 8) (keys_of b)
        full past f w =
            let n : c.len ≡ q.k = omega (arith, held.fits) in
            let long : length (keys_of c) ≡ c.len = length-take-le c.len c.keys (omega (arith, held.fits, held.high, held.room)) in
            let last : get_or (keys_of c) (q.k - 1) 0 ≡ get_or c.keys (q.k - 1) 0 = get_or-take c.len c.keys (q.k - 1) 0 (omega (arith, held.low)) in
            turns_stop (sooner v) (sooner_order v) q.k 8 part cross far_in (λ x y. farther_waits (mark_in v x) (mark_in v y)) (λ i. distance (8 * node + i)) (keys_far v keeps distance q l node hn lev grows) (open_at ds) 0 (keys_of b) (keys_of c)
            held.low held.sorted (long ∙ n)
            (λ i p t. let m = (marks i p t).1 in omega (arith, ap far_in last, w, past, low i p, m))
            one.is

        stop : open_at ds j ≡ true → keys_of c ≡ keep_all (sooner v) q.k (gather part 8) (keys_of b)
        stop t =
            let near : (get_or ds j none).0 < beyond = ltb-true (get_or ds j none).0 beyond t in
            let past : c.worst.0 < (get_or ds j none).0 = leb-false (get_or ds j none).0 c.worst.0 (rw t at shut) in
            by_test (leb q.k c.len)
            (λ f. full past (leb-true q.k c.len f) (held.worst ∙ rw f))
            (λ f. let w : c.worst.0 ≡ beyond = held.worst ∙ rw f in absurd (omega (arith, w, past, near)))
