-- The demands hold. Assumes nothing.
use Prim.Native.Nat.{ℕ, ◌+◌, ◌≤◌, ◌<◌}
use native.Mathlib.Omega.{arith}
use mathlib.Core.Path.{◌≡◌, refl, sym, ap, ap₂, subst, ◌∙◌}
use mathlib.Core.Logic.{◌⊎◌, inl, inr, ⊎_elim}
use mathlib.Core.List.{List, [], ◌∷◌, ◌++◌, append-nil, map, Memᴰ}
use mathlib.Core.Bool.{Bool, true, false, cond, ◌&&◌, true≢false}
use lib.Dec.{eqb, ltb}
use lib.ListN.{length, take, drop, take-append-drop, length-take, length-drop}
use lib.Seq.{take_all}
use borrow.Author.Tests.{eq-eqb, ne_eqb, eqb-true, eqb-false, ltb-true, ltb-false}
use Rattle.words.specs.Words.{Bytes}
use Rattle.measure.specs.declared.Point.{Point}
use Rattle.rules.specs.Verdicts.{number_of}
use Rattle.rules.proofs.Verdicts.{accepted_complete}
use Rattle.order.specs.Order.{only}
use Rattle.order.proofs.Place.{by_test}
use Rattle.record.specs.declared.Record.{Record}
use Rattle.question.specs.declared.mark.Mark.{Mark}
use Rattle.question.specs.declared.Question.{Question}
use Rattle.question.specs.Mark.{start}
use Rattle.record.specs.Record.{records_in}
use Rattle.ask.specs.Reply.{accepted, refusal, Reply, reply_of}
use Rattle.ask.proofs.Replies.{accepted_keeps}
use Rattle.ask.proofs.Theorems.{table_holds}
use Rattle.demands.specs.Visible.{visible, SameBays, Alike}
use Rattle.demands.specs.Runs.{Call, reply_to, received, joined, next_mark, accepted_in, came_short, Turn, asking, page_on, Asks, Run, waiting, refused, full, short, Pairwise, SameCall, SameTurn}
use Rattle.demands.specs.Demands.{list_on, Demand1, Demand2, Demand3}
use Rattle.demands.proofs.Whole.{whole_in, whole_out, whole_length, whole_strict, from_start, whole_once}
use Rattle.ask.proofs.Answers.{granted, reply_page, reply_refused, number_is}
use Rattle.demands.proofs.Pages.{past, page_rest, refused_none, depends_only, Got, got}

-- ---- demands 1 and 2

pub demand_1 : Demand1 reply_of
demand_1 =
    record {
      tried = number_is;
      table = λ m q room. table_holds m q (length room);
      unchanged = λ m q room h. reply_refused m q room (λ z. h (number_is m q room ∙ z));
    }

pub demand_2 : Demand2 reply_of
demand_2 =
    record {
      checked = λ m. record { sound = accepted_keeps m; complete = λ k. ap (λ r. eqb (number_of r) 0) (accepted_complete m k) };
      paged = λ m q room h. reply_page m q room (sym (number_is m q room) ∙ h);
      listed = whole_in;
      nothing_else = whole_out;
      ordered = λ m badge point yes. whole_strict m yes badge point;
      once = λ m badge point yes. whole_once m yes badge point;
    }

-- ---- a run, page by page

module _ (home : List ℕ) (ok : accepted home ≡ true) (badge : ℕ) (point : Point) where
  -- what is left of the whole list after a mark
  abbrev left : Mark → List Record
  left mark = only (past mark) (list_on home badge point)

  -- after an accepted page, what is left is less by that page
  less : (mark : Mark) (c : Call) → Got (left mark) c → left (next_mark mark (received reply_of c)) ≡ drop c.question.k (left mark)
  less mark c g = rw g.page (page_rest c.question.k mark (list_on home badge point) (whole_strict home ok badge point))

  all_left : (mark : Mark) (calls : List Call) (ended : Bool) → ended ≡ true → Run reply_of badge point home mark calls ended → joined reply_of calls ≡ left mark
  unfolding joined
  all_left mark calls ended e waiting = absurd (true≢false (sym e))
  all_left mark calls ended e (refused {c = c} {cs = cs} h r) = rw (refused_none c h) (all_left mark cs ended e r)
  all_left mark calls ended e (full {c = c} {cs = cs} a f r) =
      let g : Got (left mark) c = got home badge point mark c ok a in
      ap₂ (λ (x y : List Record). x ++ y) g.page (all_left (next_mark mark (received reply_of c)) cs ended e r ∙ less mark c g)
      ∙ take-append-drop c.question.k (left mark)
  all_left mark calls ended e (short {c = c} a f) =
      let g : Got (left mark) c = got home badge point mark c ok a in
      let n : length (take c.question.k (left mark)) < c.question.k = omega (arith, g.count) in
      append-nil (received reply_of c) ∙ g.page ∙ take_all c.question.k (left mark) (omega (arith, length-take c.question.k (left mark)))

  few : (mark : Mark) (calls : List Call) (ended : Bool) → Run reply_of badge point home mark calls ended → accepted_in reply_of calls ≤ length (left mark) + cond ended 1 0
  unfolding accepted_in
  few mark calls ended waiting = omega arith
  few mark calls ended (refused {c = c} {cs = cs} h r) = rw (ne_eqb (reply_to reply_of c).number 0 h) (omega (arith, few mark cs ended r))
  few mark calls ended (full {c = c} {cs = cs} a f r) =
      let g : Got (left mark) c = got home badge point mark c ok a in
      let n : length (take c.question.k (left mark)) ≡ c.question.k = sym g.count ∙ f in
      rw (eq-eqb (reply_to reply_of c).number 0 a.answered)
      (omega (arith, few (next_mark mark (received reply_of c)) cs ended r, ap length (less mark c g), length-drop c.question.k (left mark), length-take c.question.k (left mark), g.some))
  few mark calls ended (short {c = c} a f) = rw (eq-eqb (reply_to reply_of c).number 0 a.answered) (omega arith)

  joins : (calls : List Call) → Run reply_of badge point home start calls true → joined reply_of calls ≡ list_on home badge point
  joins calls r = all_left start calls true refl r ∙ from_start home ok badge point

  asked : (calls : List Call) (ended : Bool) → Run reply_of badge point home start calls ended → accepted_in reply_of calls ≤ length (visible badge home) + cond ended 1 0
  asked calls ended r =
      omega (arith, few start calls ended r, ap length (from_start home ok badge point), whole_length home badge point)

-- ---- the same questions over maps that are alike

same_reply : (c d : Call) → c.question ≡ d.question → c.room ≡ d.room → Alike c.question.badge.0 c.map d.map → reply_to reply_of c ≡ reply_to reply_of d
same_reply c d e f a = depends_only c.map d.map c.question c.room a ∙ ap₂ (reply_of d.map) e f

same_replies : (calls others : List Call) → Pairwise SameCall calls others → map (reply_to reply_of) calls ≡ map (reply_to reply_of) others
unfolding Pairwise
same_replies [] [] s = refl
same_replies [] (d ∷ ds) s = absurd s
same_replies (c ∷ cs) [] s = absurd s
same_replies (c ∷ cs) (d ∷ ds) s =
    ap₂ {C = List Reply} (λ x l. x ∷ l) (same_reply c d s.0.question s.0.room s.0.maps) (same_replies cs ds s.1)

module _ (home : List ℕ) (badge : ℕ) (point : Point) where
  asks_too : (mark : Mark) (c d : Call) → SameCall c d → Asks reply_of badge point home mark c → Asks reply_of badge point home mark d
  asks_too mark c d s a =
      let e = s.question in
      let yes : accepted c.map ≡ true =
      (granted c.map c.question (length c.room) (sym (number_is c.map c.question c.room) ∙ a.answered)).taken in
      let b : SameBays badge c.map d.map = subst (λ (t : ℕ). SameBays t c.map d.map) a.same_badge (s.maps.bays yes) in
      record {
        answered = ap (λ (r : Reply). r.number) (sym (same_reply c d e s.room s.maps)) ∙ a.answered;
        bytes = s.bytes;
        same_badge = ap (λ (q : Question). q.badge.0) (sym e) ∙ a.same_badge;
        same_point = ap (λ (q : Question). q.from) (sym e) ∙ a.same_point;
        marked = ap (λ (q : Question). q.mark) (sym e) ∙ a.marked;
        shows = record { there = λ x i. b.there x (a.shows.there x i); back = λ x i. a.shows.back x (b.back x i) };
      }

  same_run : (mark : Mark) (calls others : List Call) (ended : Bool) → Pairwise SameCall calls others
      → Run reply_of badge point home mark calls ended → Run reply_of badge point home mark others ended
  unfolding Pairwise
  same_run mark calls [] ended s waiting = waiting
  same_run mark calls (d ∷ ds) ended s waiting = absurd s
  same_run mark calls [] ended s (refused h r) = absurd s
  same_run mark calls (d ∷ ds) ended s (refused {c = c} {cs = cs} h r) =
      refused (λ z. h (ap (λ (t : Reply). t.number) (same_reply c d s.0.question s.0.room s.0.maps) ∙ z)) (same_run mark cs ds ended s.1 r)
  same_run mark calls [] ended s (full a f r) = absurd s
  same_run mark calls (d ∷ ds) ended s (full {c = c} {cs = cs} a f r) =
      let e : reply_to reply_of c ≡ reply_to reply_of d = same_reply c d s.0.question s.0.room s.0.maps in
      full (asks_too mark c d s.0 a)
      (ap (λ (t : Reply). t.found) (sym e) ∙ f ∙ ap (λ (q : Question). q.k) s.0.question)
      (subst (λ (t : Reply). Run reply_of badge point home (next_mark mark (records_in t.found t.room)) ds ended) e
      (same_run (next_mark mark (received reply_of c)) cs ds ended s.1 r))
  same_run mark calls [] ended s (short a f) = absurd s
  same_run mark calls (d ∷ []) ended s (short {c = c} a f) =
      short (asks_too mark c d s.0 a)
      (subst (λ (t : Reply). t.found < d.question.k) (same_reply c d s.0.question s.0.room s.0.maps)
      (subst (λ (q : Question). (reply_to reply_of c).found < q.k) s.0.question f))
  same_run mark calls (d ∷ e ∷ ds) ended s (short a f) = absurd s.1

-- ---- paging on

-- the number of the answer does not hang on the mark
number_any : (badge : ℕ) (point : Point) (m n : Mark) (t : Turn) → (reply_to reply_of (asking badge point m t)).number ≡ (reply_to reply_of (asking badge point n t)).number
unfolding refusal
number_any badge point m n t =
    number_is t.map (asking badge point m t).question t.room ∙ sym (number_is t.map (asking badge point n t).question t.room)

-- a refused call leaves the mark
mark_stays : (mark : Mark) (c : Call) → ((reply_to reply_of c).number ≡ 0 → ⊥) → next_mark mark (received reply_of c) ≡ mark
unfolding next_mark
mark_stays mark c h = rw (refused_none c h)

module _ (home : List ℕ) (ok : accepted home ≡ true) (badge : ℕ) (point : Point) where
  -- ended, or every turn asked
  abbrev Turned : Mark → List Turn → Type 0
  Turned mark ts =
      Run reply_of badge point home mark (page_on reply_of badge point mark ts) true
      ⊎ (Run reply_of badge point home mark (page_on reply_of badge point mark ts) false × (accepted_in reply_of (map (asking badge point start) ts) ≤ accepted_in reply_of (page_on reply_of badge point mark ts)))

  -- what is asked of the turns
  abbrev Fair : Turn → Type 0
  Fair t = Bytes t.map × (accepted t.map ≡ true → SameBays badge home t.map)

  module _ (mark : Mark) (t : Turn) (ts : List Turn) where
    abbrev c : Call
    c = asking badge point mark t

    abbrev next : Mark
    next = next_mark mark (received reply_of c)

    one_short : came_short reply_of c ≡ true → page_on reply_of badge point mark (t ∷ ts) ≡ c ∷ []
    unfolding page_on
    one_short e = rw e

    one_more : came_short reply_of c ≡ false → page_on reply_of badge point mark (t ∷ ts) ≡ c ∷ page_on reply_of badge point next ts
    unfolding page_on
    one_more e = rw e

    more_asked : (cs : List Call) → accepted_in reply_of (map (asking badge point start) ts) ≤ accepted_in reply_of cs
        → accepted_in reply_of (map (asking badge point start) (t ∷ ts)) ≤ accepted_in reply_of (c ∷ cs)
    unfolding accepted_in
    more_asked cs h = rw (number_any badge point start mark t) (omega arith)

    -- a call that does not end the run
    on : came_short reply_of c ≡ false
        → ((ended : Bool) → Run reply_of badge point home next (page_on reply_of badge point next ts) ended → Run reply_of badge point home mark (c ∷ page_on reply_of badge point next ts) ended)
        → Turned next ts → Turned mark (t ∷ ts)
    on e f (inl r) = inl (rw (one_more e) (f true r))
    on e f (inr r) = inr (rw (one_more e) (f false r.0), rw (one_more e) (more_asked (page_on reply_of badge point next ts) r.1))

    asks : Fair t → (reply_to reply_of c).number ≡ 0 → Asks reply_of badge point home mark c
    asks h e =
        let g = granted t.map c.question (length t.room) (sym (number_is t.map c.question t.room) ∙ e) in
        record { answered = e; bytes = h.0; same_badge = refl; same_point = refl; marked = refl; shows = h.1 g.taken }

    turned : Fair t → ((m : Mark) → Turned m ts) → Turned mark (t ∷ ts)
    turned h ih =
        by_test (eqb (reply_to reply_of c).number 0)
        (λ e. by_test (ltb (reply_to reply_of c).found t.k)
        (λ f. inl (rw (one_short (rw (e, f))) (short (asks h (eqb-true (reply_to reply_of c).number 0 e)) (ltb-true (reply_to reply_of c).found t.k f))))
        (λ f. let a = asks h (eqb-true (reply_to reply_of c).number 0 e) in
        let g : Got (left home ok badge point mark) c = got home badge point mark c ok a in
        let k : (reply_to reply_of c).found ≡ t.k = omega (arith, ltb-false (reply_to reply_of c).found t.k f, g.count, length-take t.k (left home ok badge point mark)) in
        on (rw (e, f)) (λ ended r. full a k r) (ih next)))
        (λ e. let n : (reply_to reply_of c).number ≡ 0 → ⊥ = eqb-false (reply_to reply_of c).number 0 e in
        on (rw e)
        (λ ended r. refused n (subst (λ (m : Mark). Run reply_of badge point home m (page_on reply_of badge point next ts) ended) (mark_stays mark c n) r))
        (ih next))

  paging : (mark : Mark) (ts : List Turn) → ((t : Turn) → Memᴰ t ts → Fair t) → Turned mark ts
  unfolding page_on accepted_in
  paging mark [] h = inr (waiting, omega arith)
  paging mark (t ∷ ts) h = turned mark t ts (h t (Memᴰ.head refl)) (λ m. paging m ts (λ u i. h u (Memᴰ.tail i)))

  comes_short : (ts : List Turn) → ((t : Turn) → Memᴰ t ts → Fair t)
      → length (visible badge home) < accepted_in reply_of (map (asking badge point start) ts) → Run reply_of badge point home start (page_on reply_of badge point start ts) true
  comes_short ts h n =
      ⊎_elim (λ r. r) (λ r. absurd (omega (arith, asked home ok badge point (page_on reply_of badge point start ts) false r.0, r.1, n))) (paging start ts h)

-- ---- two who page on

module _ (badge : ℕ) (point : Point) where
  same_asking : (mark : Mark) (t u : Turn) → SameTurn badge t u → SameCall (asking badge point mark t) (asking badge point mark u)
  same_asking mark t u s =
      record {
        question = ap (λ (k : ℕ). (asking badge point mark (record { map = t.map; k = k; room = t.room })).question) s.k;
        room = s.room;
        bytes = s.bytes;
        maps = s.maps;
      }

  same_paging : (mark : Mark) (ts us : List Turn) → Pairwise (SameTurn badge) ts us → Pairwise SameCall (page_on reply_of badge point mark ts) (page_on reply_of badge point mark us)
  unfolding Pairwise page_on
  same_paging mark [] [] s = tt
  same_paging mark [] (u ∷ us) s = absurd s
  same_paging mark (t ∷ ts) [] s = absurd s
  same_paging mark (t ∷ ts) (u ∷ us) s = (same_asking mark t u s.0, rest (λ m. same_paging m ts us s.1))
    where
      c : Call
      c = asking badge point mark t

      d : Call
      d = asking badge point mark u

      e : reply_to reply_of c ≡ reply_to reply_of d
      e = same_reply c d (same_asking mark t u s.0).question s.0.room s.0.maps

      two : (a : Bool) (m : Mark) → Pairwise SameCall (page_on reply_of badge point m ts) (page_on reply_of badge point m us)
          → Pairwise SameCall (cond a [] (page_on reply_of badge point m ts)) (cond a [] (page_on reply_of badge point m us))
      two true m h = tt
      two false m h = h

      -- what follows the reply r to a question of k
      after : Reply → ℕ → List Call
      after r k = cond (eqb r.number 0 && ltb r.found k) [] (page_on reply_of badge point (next_mark mark (records_in r.found r.room)) us)

      rest : ((m : Mark) → Pairwise SameCall (page_on reply_of badge point m ts) (page_on reply_of badge point m us))
          → Pairwise SameCall (cond (came_short reply_of c) [] (page_on reply_of badge point (next_mark mark (received reply_of c)) ts)) (cond (came_short reply_of d) [] (page_on reply_of badge point (next_mark mark (received reply_of d)) us))
      rest ih =
          subst (λ (k : ℕ). Pairwise SameCall (cond (came_short reply_of c) [] (page_on reply_of badge point (next_mark mark (received reply_of c)) ts)) (after (reply_to reply_of d) k)) s.0.k
          (subst (λ (r : Reply). Pairwise SameCall (cond (came_short reply_of c) [] (page_on reply_of badge point (next_mark mark (received reply_of c)) ts)) (after r t.k)) e
          (two (came_short reply_of c) (next_mark mark (received reply_of c)) (ih (next_mark mark (received reply_of c)))))

pub demand_3 : Demand3 reply_of
demand_3 =
    record {
      depends_only = depends_only;
      same_replies = same_replies;
      same_paging = λ badge point. same_paging badge point start;
      refused_adds_nothing = λ c mark h. (refused_none c h, mark_stays mark c h);
      pages = λ badge point home ok. record {
        joins = joins home ok badge point;
        ends = λ calls. asked home ok badge point calls true;
        goes_on = λ calls r. omega (arith, asked home ok badge point calls false r);
        comes_short = comes_short home ok badge point;
        same_run = same_run home badge point start;
      };
    }
