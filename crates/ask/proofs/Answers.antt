-- The reply by its number: what answer 0 says of the question and the map, the page it then brings, and that no more than
-- a hundred bays are found. Assumes nothing.
use Prim.Native.Nat.{ℕ, ◌*◌, ◌≤◌}
use native.Mathlib.Omega.{arith}
use mathlib.Core.Path.{◌≡◌, sym, ap, ◌∙◌}
use mathlib.Core.List.Memᴰ
use mathlib.Core.List.{List, [], ◌∷◌}
use mathlib.Core.Bool.{true, false, not, cond}
use lib.Dec.{eqb, leb, ltb}
use lib.ListN.{length, length-take, length-map}
use borrow.Author.Tests.{leb-true, ltb-false, eqb-true, eqb-false, eq-eqb, ne_eqb, not-false}
use Rattle.numbers.specs.Tried.{Test, test, first_given}
use Rattle.std.proofs.lemmas.Bool.{and_parts}
use Rattle.numbers.proofs.Tried.{none_given, Numbered, given_append}
use Rattle.measure.specs.Answer.{point_ok}
use Rattle.floor.specs.View.{view_of}
use Rattle.order.specs.Order.{only}
use Rattle.order.proofs.Place.{by_test, mem_each}
use Rattle.record.specs.Record.{record_size}
use Rattle.question.specs.declared.Question.{Question}
use Rattle.question.specs.Badge.{badge_ok}
use Rattle.nearest.specs.Shown.{distance_to, after_mark, whole_list, page}
use Rattle.ask.specs.Told.{record_at, page_of}
use Rattle.ask.specs.Reply.{count_ok, accepted, own_tests, refusal, Reply, refused, answered, reply_of}

-- what a question that is not refused by itself keeps
pub record OwnGood (q : Question) (size : ℕ) : Type 0 where
  pub point : point_ok q.from ≡ true
  pub k_low : 1 ≤ q.k
  pub k_high : q.k ≤ 100
  pub fits : record_size * q.k ≤ size

module _ (q : Question) (size : ℕ) where
  abbrev own : ℕ
  own = first_given (own_tests q size)

  pub own_good : own ≡ 0 → OwnGood q size
  own_good e =
      let p = none_given (test 1 (not (point_ok q.from))) _ (λ z. omega arith) e in
      let k = none_given (test 2 (not (count_ok q.k))) _ (λ z. omega arith) p.1 in
      let b = none_given (test 3 (not (badge_ok q.badge.0))) _ (λ z. omega arith) k.1 in
      let s = none_given (test 4 (ltb size (record_size * q.k))) [] (λ z. omega arith) b.1 in
      let count = and_parts (leb 1 q.k) (leb q.k 100) (not-false (count_ok q.k) k.0) in
      record {
        point = not-false (point_ok q.from) p.0;
        k_low = leb-true 1 q.k count.0;
        k_high = leb-true q.k 100 count.1;
        fits = ltb-false size (record_size * q.k) s.0;
      }

  numbered : Numbered (own_tests q size)
  numbered =
      mem_each (λ (t : Test). t.number ≡ 0 → ⊥) (λ z. omega arith)
      (mem_each (λ (t : Test). t.number ≡ 0 → ⊥) (λ z. omega arith)
      (mem_each (λ (t : Test). t.number ≡ 0 → ⊥) (λ z. omega arith)
      (mem_each (λ (t : Test). t.number ≡ 0 → ⊥) (λ z. omega arith) (λ t m. absurd (Memᴰ.not-nil m)))))

  module _ (map : List ℕ) where
    -- the map is looked at where the question is not refused by itself
    abbrev map_tests : List Test
    map_tests = test 5 (not (accepted map)) ∷ []

    refusal_parts : refusal map q size ≡ cond (eqb own 0) (first_given map_tests) own
    unfolding refusal
    refusal_parts = given_append (own_tests q size) map_tests numbered

    pub refusal_own : (own ≡ 0 → ⊥) → refusal map q size ≡ own
    refusal_own ne = refusal_parts ∙ rw (ne_eqb own 0 ne)

    pub refusal_map : own ≡ 0 → accepted map ≡ false → refusal map q size ≡ 5
    unfolding first_given
    refusal_map e a = refusal_parts ∙ rw (eq-eqb own 0 e, a)

    pub refusal_none : own ≡ 0 → accepted map ≡ true → refusal map q size ≡ 0
    unfolding first_given
    refusal_none e a = refusal_parts ∙ rw (eq-eqb own 0 e, a)

-- what answer 0 says
pub record Granted (map : List ℕ) (q : Question) (size : ℕ) : Type 0 where
  pub none : first_given (own_tests q size) ≡ 0
  pub own : OwnGood q size
  pub taken : accepted map ≡ true

pub granted : (map : List ℕ) (q : Question) (size : ℕ) → refusal map q size ≡ 0 → Granted map q size
granted map q size e =
    by_test (eqb (own q size) 0)
    (λ t. let z = eqb-true (own q size) 0 t in
    by_test (accepted map)
    (λ a. record { none = z; own = own_good q size z; taken = a })
    (λ a. absurd (omega (arith, e, refusal_map q size map z a))))
    (λ t. let ne = eqb-false (own q size) 0 t in absurd (ne (sym (refusal_own q size map ne) ∙ e)))

module _ (map : List ℕ) (q : Question) (room : List ℕ) where
  abbrev number : ℕ
  number = refusal map q (length room)

  pub reply_page : number ≡ 0 → reply_of map q room ≡ answered (page_of map q) q.k room
  unfolding reply_of
  reply_page e = rw (eq-eqb number 0 e)

  pub reply_refused : (number ≡ 0 → ⊥) → reply_of map q room ≡ refused number room
  unfolding reply_of
  reply_refused ne = rw (ne_eqb number 0 ne)

  -- the reply's number is that of the table
  pub number_is : (reply_of map q room).number ≡ number
  number_is =
      by_test (eqb number 0)
      (λ t. let z = eqb-true number 0 t in ap (λ (r : Reply). r.number) (reply_page z) ∙ sym z)
      (λ t. ap (λ (r : Reply). r.number) (reply_refused (eqb-false number 0 t)))

-- a page has at most k bays
page_few : (m : List ℕ) (q : Question) → length (page_of m q) ≤ q.k
unfolding page
page_few m q =
    let v = view_of m in
    let d = distance_to v q.from in
    omega (arith, length-map (page v d q.badge.0 q.mark q.k) (record_at v d), length-take q.k (only (after_mark v d q.mark) (whole_list v d q.badge.0)))

pub found_few : (map : List ℕ) (q : Question) (room : List ℕ) → (reply_of map q room).found ≤ 100
found_few map q room =
    by_test (eqb (refusal map q (length room)) 0)
    (λ t. let z = eqb-true (refusal map q (length room)) 0 t in
    omega (arith, ap (λ (r : Reply). r.found) (reply_page map q room z), page_few map q, (granted map q (length room) z).own.k_high))
    (λ t. omega (arith, ap (λ (r : Reply). r.found) (reply_refused map q room (eqb-false (refusal map q (length room)) 0 t))))
