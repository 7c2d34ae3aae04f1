-- A search of nothing, of one bay, and of one part after another. Assumes nothing.
use mathlib.Core.Path.{◌≡◌, sym, ap, ◌∙◌}
use mathlib.Core.Bool.{true, false}
use mathlib.Core.List.{List, [], ◌∷◌, ◌++◌, map, map-append}
use lib.ListN.{get_or}
use Prim.Native.Nat.{ℕ, ◌-◌}
use Rattle.measure.specs.declared.HowFar.{HowFar}
use Rattle.floor.specs.View.{View}
use Rattle.order.specs.Order.{keep_all, only}
use Rattle.order.proofs.Only.{only_nil, only_yes, only_no, only_append}
use Rattle.order.proofs.Kept.{keep_append}
use Rattle.question.specs.declared.Question.{Question}
use Rattle.nearest.specs.declared.best.Best.{Best}
use Rattle.nearest.specs.Asked.{wanted_by}
use Rattle.nearest.specs.Best.{key_of, sooner, keys_of, worst_of, listing, Carried}
use Rattle.nearest.specs.Searched.{Kept, wanted_keys, Searched}
use Rattle.nearest.proofs.Offer.{Offered, listed, bounded}

module _ (v : View) (distance : ℕ → ℕ) (q : Question) where
  pub keys_nil : wanted_keys v distance q [] ≡ []
  unfolding wanted_keys
  keys_nil = rw (only_nil (wanted_by v distance q))

  pub keys_append : (es fs : List ℕ) → wanted_keys v distance q (es ++ fs) ≡ wanted_keys v distance q es ++ wanted_keys v distance q fs
  unfolding wanted_keys
  keys_append es fs =
      ap (map (key_of distance)) (only_append (wanted_by v distance q) es fs)
      ∙ map-append (key_of distance) (only (wanted_by v distance q) es) (only (wanted_by v distance q) fs)

  keys_unwanted : (j : ℕ) → wanted_by v distance q j ≡ false → wanted_keys v distance q (j ∷ []) ≡ []
  unfolding wanted_keys
  keys_unwanted j h = rw (only_no (wanted_by v distance q) j [] h, only_nil (wanted_by v distance q))

  keys_one : (j : ℕ) → wanted_by v distance q j ≡ true → wanted_keys v distance q (j ∷ []) ≡ key_of distance j ∷ []
  unfolding wanted_keys
  keys_one j h = rw (only_yes (wanted_by v distance q) j [] h, only_nil (wanted_by v distance q))

  module _ (b : Best) where
    pub searched_none : Carried v q.k b → Searched v distance q [] b b
    unfolding keep_all
    searched_none c = record { carried = c; is = rw keys_nil }

    pub searched_unwanted : (j : ℕ) → wanted_by v distance q j ≡ false → Carried v q.k b → Searched v distance q (j ∷ []) b b
    unfolding keep_all
    searched_unwanted j h c = record { carried = c; is = rw (keys_unwanted j h) }

    pub searched_one : (j : ℕ) (r : Best) → wanted_by v distance q j ≡ true → Offered v q.k b (key_of distance j) r → Searched v distance q (j ∷ []) b r
    unfolding keep_all
    searched_one j r h o = record { carried = o.carried; is = rw (keys_one j h) o.is }

    pub searched_more : (es fs : List ℕ) (r s : Best) → Searched v distance q es b r → Searched v distance q fs r s → Searched v distance q (es ++ fs) b s
    searched_more es fs r s h g =
        record {
          carried = g.carried;
          is =
              g.is
              ∙ ap (keep_all (sooner v) q.k (wanted_keys v distance q fs)) h.is
              ∙ sym (keep_append (sooner v) q.k (wanted_keys v distance q es) (wanted_keys v distance q fs) (keys_of b))
              ∙ ap (λ (l : List ℕ). keep_all (sooner v) q.k l (keys_of b)) (sym (keys_append es fs));
        }

-- a list that is searched where it lies: the distance of its kth is found again at the end
pub searched_begun : (v : View) (distance : ℕ → ℕ) (q : Question) (b : Best) → Carried v q.k b
    → Searched v distance q [] b (listing q.k b.keys b.len)
searched_begun v distance q b c =
    let none = searched_none v distance q b c in record { carried = listed v q.k b none.carried; is = none.is }

pub kept_in_place : {v : View} {k : ℕ} {keys : List ℕ} {b : Best} {room : List ℕ} {len : ℕ} {worst : HowFar}
    → Kept v k keys b (listing k room len) → worst.0 ≡ worst_of k len (get_or room (k - 1) 0)
    → Kept v k keys b (record { keys = room; len = len; worst = worst })
kept_in_place h e = record { carried = bounded h.carried e; is = h.is }
