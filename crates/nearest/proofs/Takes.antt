-- When the bay in a slot of a leaf goes into the list, and what the list is then. Assumes nothing.
use Prim.Native.Nat.{ℕ, suc, ◌+◌, ◌*◌, ◌-◌, ◌<◌, ◌≤◌}
use native.Mathlib.Omega.{arith}
use mathlib.Core.Path.{◌≡◌, refl, ◌∙◌}
use mathlib.Core.Logic.{◌⊎◌, inl, inr}
use mathlib.Core.Bool.{Bool, true, false, ◌&&◌, ◌||◌, true≢false}
use mathlib.Core.List.{List}
use lib.Dec.{ltb}
use lib.ListN.{length, take, get_or}
use borrow.Author.Tests.{ltb-true, ltb-false, lt-ltb, le-ltb}
use Rattle.std.proofs.lemmas.Bool.{and_parts}
use Rattle.floor.specs.View.{View, filled}
use Rattle.order.specs.Order.{place}
use Rattle.order.proofs.Place.{by_test}
use Rattle.tree.specs.Under.{slot_bays, part_bays}
use Rattle.question.specs.declared.Question.{Question}
use Rattle.nearest.specs.declared.best.Best.{Best}
use Rattle.nearest.specs.Asked.{wanted_by}
use Rattle.nearest.specs.Best.{key_of, sooner, Slots, listing, Carried}
use Rattle.nearest.specs.Searched.{Searched, taken_of}
use Rattle.nearest.proofs.Offer.{Offered, with_room, when_full, left_out}
use Rattle.nearest.proofs.Searching.{searched_none, searched_unwanted, searched_one}

module _ (v : View) (distance : ℕ → ℕ) (q : Question) (j len last : ℕ) where
  pub takes_none : filled v j ≡ false → false ≡ taken_of v distance q j len last
  takes_none f = rw f

  pub takes_unwanted : filled v j ≡ true → wanted_by v distance q j ≡ false → false ≡ taken_of v distance q j len last
  takes_unwanted f w = rw (f, w)

  pub takes_room : filled v j ≡ true → wanted_by v distance q j ≡ true → len < q.k → true ≡ taken_of v distance q j len last
  takes_room f w h = rw (f, w, lt-ltb len q.k h)

  pub takes_before : {r : Bool} → filled v j ≡ true → wanted_by v distance q j ≡ true → q.k ≤ len → r ≡ sooner v (key_of distance j) last
      → r ≡ taken_of v distance q j len last
  takes_before f w h e = rw (f, w, le-ltb len q.k h) e

-- slot i of a leaf
module _ (v : View) (distance : ℕ → ℕ) (q : Question) (node i : ℕ) (keys : List ℕ) (len : ℕ)
    (c : Carried v q.k (listing q.k keys len)) where
  abbrev j : ℕ
  j = 8 * node + i

  abbrev b : Best
  b = listing q.k keys len

  abbrev last : ℕ
  last = get_or keys (q.k - 1) 0

  none_here : filled v j ≡ false → Searched v distance q (part_bays v 0 node i) b b
  none_here f = rw f (searched_none v distance q b c)

  unwanted_here : filled v j ≡ true → wanted_by v distance q j ≡ false → Searched v distance q (part_bays v 0 node i) b b
  unfolding slot_bays
  unwanted_here f w = rw f (searched_unwanted v distance q b j w c)

  wanted_here : (r : Best) → filled v j ≡ true → wanted_by v distance q j ≡ true → Offered v q.k b (key_of distance j) r
      → Searched v distance q (part_bays v 0 node i) b r
  unfolding slot_bays
  wanted_here r f w o = rw f (searched_one v distance q b j r w o)

  pub slot_left : taken_of v distance q j len last ≡ false → Searched v distance q (part_bays v 0 node i) b b
  slot_left t =
      by_test (filled v j)
      (λ f. by_test (wanted_by v distance q j)
      (λ w. by_test (ltb len q.k)
      (λ h. absurd (true≢false (takes_room v distance q j len last f w (ltb-true len q.k h) ∙ t)))
      (λ h. let full = ltb-false len q.k h in
      wanted_here b f w (left_out v q.k keys len (key_of distance j) c full (takes_before v distance q j len last f w full refl ∙ t))))
      (λ w. unwanted_here f w))
      (λ f. none_here f)

  -- the list grew by one, or was full
  pub slot_taken : (t : List ℕ) (up : ℕ) → taken_of v distance q j len last ≡ true → length t ≡ 100 → Slots v t
      → ((len < q.k) × (up ≡ len + 1)) ⊎ ((q.k ≤ len) × (up ≡ len))
      → take (suc (up - 1)) t ≡ place (sooner v) (key_of distance j) (take (up - 1) keys)
      → Searched v distance q (part_bays v 0 node i) b (listing q.k t up)
  slot_taken t up h long slots w e = go w
    where
      new : ℕ
      new = key_of distance j

      parts : (filled v j ≡ true) × ((wanted_by v distance q j && (ltb len q.k || sooner v new last)) ≡ true)
      parts = and_parts (filled v j) (wanted_by v distance q j && (ltb len q.k || sooner v new last)) h

      more : (wanted_by v distance q j ≡ true) × ((ltb len q.k || sooner v new last) ≡ true)
      more = and_parts (wanted_by v distance q j) (ltb len q.k || sooner v new last) parts.1

      go : ((len < q.k) × (up ≡ len + 1)) ⊎ ((q.k ≤ len) × (up ≡ len)) → Searched v distance q (part_bays v 0 node i) b (listing q.k t up)
      go (inl g) =
          let n : up - 1 ≡ len = omega (arith, g.1) in
          wanted_here (listing q.k t up) parts.0 more.0 (rw g.1 (with_room v q.k keys len new c t g.0 long slots (rw n at e)))
      go (inr g) =
          let fits : len ≤ q.k = c.fits in
          let n : up ≡ q.k = omega (arith, g.0, g.1) in
          wanted_here (listing q.k t up) parts.0 more.0
          (rw n (when_full v q.k keys len new c t g.0 long slots (rw (le-ltb len q.k g.0) at more.1) (rw n at e)))
