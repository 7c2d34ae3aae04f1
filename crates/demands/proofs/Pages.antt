-- What comes after the last bay of a page is what came after the mark, less the page; and what an accepted question of a
-- run brings. Assumes nothing.
use Prim.Native.Nat.{ℕ, zero, suc, ◌≤◌}
use mathlib.Core.Path.{◌≡◌, refl, sym, ap, ap₂, subst, ◌∙◌}
use mathlib.Core.List.{List, [], ◌∷◌}
use mathlib.Core.Bool.{Bool, true}
use lib.Dec.{eqb}
use lib.ListN.{length, take, drop}
use borrow.Author.Tests.{eqb-true, eqb-false}
use Rattle.measure.specs.declared.Point.{Point}
use Rattle.order.specs.Order.{only, Strict}
use Rattle.order.proofs.Place.{by_test}
use Rattle.order.proofs.After.{after_next}
use Rattle.record.specs.declared.Record.{Record}
use Rattle.question.specs.declared.mark.Mark.{Mark}
use Rattle.question.specs.declared.Question.{Question}
use Rattle.question.specs.Mark.{before}
use Rattle.question.proofs.Before.{in_order}
use Rattle.floor.specs.View.{View, view_of}
use Rattle.order.proofs.Mapped.{by_order, take_map, only_map}
use Rattle.nearest.specs.Shown.{distance_to, after_mark, whole_list, page}
use Rattle.ask.specs.Told.{record_at, mark_of, page_of}
use Rattle.record.specs.Record.{records_in}
use Rattle.ask.specs.Reply.{accepted, refusal, Reply, refused, answered, reply_of}
use Rattle.ask.proofs.Answers.{Granted, granted, reply_page, reply_refused, number_is}
use Rattle.demands.specs.Visible.{Alike}
use Rattle.demands.specs.Runs.{Call, reply_to, received, next_mark, Asks}
use Rattle.demands.specs.Demands.{list_on, earlier}
use Rattle.record.proofs.Reading.{room_read}
use Rattle.ask.proofs.Fitting.{granted_ground, page_small}
use Rattle.demands.proofs.Whole.{whole_same}

-- those strictly after a mark
abbrev pub past : Mark → Record → Bool
past m r = before m (mark_of r)

-- a mark as a record of the order
abbrev marker : Mark → Record
marker m = record { bay = m.bay; zone = 0; far = m.far }

-- a page, of the list as it is told
pub page_is : (m : List ℕ) (q : Question) → page_of m q ≡ take q.k (only (past q.mark) (list_on m q.badge.0 q.from))
unfolding page
page_is m q =
    sym (take_map told q.k (only (after_mark v (distance_to v q.from) q.mark) whole))
    ∙ ap (take q.k) (sym (only_map told (past q.mark) whole))
  where
    v : View
    v = view_of m

    told : ℕ → Record
    told = record_at (view_of m) (distance_to (view_of m) q.from)

    whole : List ℕ
    whole = whole_list (view_of m) (distance_to (view_of m) q.from) q.badge.0

pub page_rest : (k : ℕ) (m : Mark) (l : List Record) → Strict earlier l
    → only (past (next_mark m (take k (only (past m) l)))) l ≡ drop k (only (past m) l)
unfolding next_mark
page_rest zero m l s = refl
page_rest (suc k) m l s = go (only (past m) l) refl (λ x. page_rest k (mark_of x) l s)
  where
    go : (r : List Record) → only (past m) l ≡ r
        → ((x : Record) → only (past (next_mark (mark_of x) (take k (only (past (mark_of x)) l)))) l ≡ drop k (only (past (mark_of x)) l))
        → only (past (next_mark m (take (suc k) r))) l ≡ drop (suc k) r
    go [] e ih = e
    go (x ∷ r) e ih =
        let f : only (past (mark_of x)) l ≡ r = after_next earlier (by_order mark_of before in_order) (marker m) x r l s e in
        subst (λ (t : List Record). only (past (next_mark (mark_of x) (take k t))) l ≡ drop k t) f (ih x)

-- a refused call brings nothing
pub refused_none : (c : Call) → ((reply_to reply_of c).number ≡ 0 → ⊥) → received reply_of c ≡ []
unfolding records_in
refused_none c h =
    ap (λ (r : Reply). records_in r.found r.room) (reply_refused c.map c.question c.room (λ z. h (number_is c.map c.question c.room ∙ z)))

-- ---- a reply hangs on nothing else

pub depends_only : (map other : List ℕ) (q : Question) (room : List ℕ) → Alike q.badge.0 map other → reply_of map q room ≡ reply_of other q room
unfolding page refusal
depends_only map other q room a =
    by_test (eqb (refusal map q (length room)) 0)
    (λ t. let z = eqb-true (refusal map q (length room)) 0 t in
    reply_page map q room z ∙ ap (λ (es : List Record). answered es q.k room) (pages (granted map q (length room) z).taken) ∙ sym (reply_page other q room (sym same ∙ z)))
    (λ t. let ne = eqb-false (refusal map q (length room)) 0 t in
    reply_refused map q room ne ∙ ap (λ (n : ℕ). refused n room) same ∙ sym (reply_refused other q room (λ z. ne (same ∙ z))))
  where
    same : refusal map q (length room) ≡ refusal other q (length room)
    same = rw a.check

    pages : accepted map ≡ true → page_of map q ≡ page_of other q
    pages y =
        page_is map q
        ∙ ap (λ (l : List Record). take q.k (only (past q.mark) l))
        (whole_same map other q.badge.0 q.from y (sym a.check ∙ y) (a.bays y))
        ∙ sym (page_is other q)

-- ---- an accepted question of a run brings the first k of what is left of the whole list

pub record Got (left : List Record) (c : Call) : Type 0 where
  pub page : received reply_of c ≡ take c.question.k left
  pub count : (reply_to reply_of c).found ≡ length (take c.question.k left)
  pub some : 1 ≤ c.question.k

pub got : (home : List ℕ) (badge : ℕ) (point : Point) (mark : Mark) (c : Call) → accepted home ≡ true → Asks reply_of badge point home mark c
    → Got (only (past mark) (list_on home badge point)) c
got home badge point mark c ok a = record { page = is_page ∙ is_first; count = ap (λ (r : Reply). r.found) is ∙ ap length is_first; some = g.own.k_low }
  where
    q : Question
    q = c.question

    zero_is : refusal c.map c.question (length c.room) ≡ 0
    zero_is = sym (number_is c.map c.question c.room) ∙ a.answered

    g : Granted c.map c.question (length c.room)
    g = granted c.map c.question (length c.room) zero_is

    is : reply_to reply_of c ≡ answered (page_of c.map c.question) c.question.k c.room
    is = reply_page c.map c.question c.room zero_is

    is_page : received reply_of c ≡ page_of c.map c.question
    is_page = ap (λ (r : Reply). records_in r.found r.room) is ∙ room_read c.question.k (page_of c.map c.question) c.room (page_small c.map c.question a.bytes (granted_ground c.map c.question (length c.room) g))

    whole_here : list_on c.map c.question.badge.0 c.question.from ≡ list_on home badge point
    whole_here = ap₂ (list_on c.map) a.same_badge a.same_point ∙ sym (whole_same home c.map badge point ok g.taken a.shows)

    is_first : page_of c.map c.question ≡ take c.question.k (only (past mark) (list_on home badge point))
    is_first =
        page_is c.map c.question
        ∙ ap₂ (λ (t : Mark) (w : List Record). take c.question.k (only (past t) w)) a.marked whole_here
