-- What each verdict of the map check means, and what a rule that holds gives to the rules after it.
-- Assumes nothing.
use Rattle.std.specs.Prelude.{Ok, Err}
use mathlib.Core.Path.{◌≡◌, refl, sym, ap, ◌∙◌}
use mathlib.Core.Bool.{Bool, true, false, cond, true≢false}
use mathlib.Core.List.Memᴰ
use mathlib.Core.List.{List, [], ◌∷◌, Memᴰ}
use mathlib.Core.Logic.{⊎_elim}
use Prim.Native.Nat.{ℕ, ◌+◌, ◌*◌, ◌<◌, ◌≤◌}
use native.Mathlib.Omega.{arith}
use lib.Dec.{ltb}
use borrow.Author.Tests.{lt-ltb, le-ltb, ltb-true, ltb-false}
use Rattle.numbers.proofs.Below.{first_is, first_none, first_all, first_stop, first_end}
use Rattle.numbers.proofs.Exactly.{by_eights}
use Rattle.floor.specs.View.{View, view_of, Shaped, link}
use Rattle.rules.specs.declared.Rule.{Rule}
use Rattle.rules.specs.declared.Rule.TheVariants.{Form, Fill, Links, Boxes, Bays}
use Rattle.rules.specs.declared.Fault.TheVariants.{BadHeader, Broken}
use Rattle.rules.specs.Header.{header_ok, HeaderRight}
use Rattle.rules.specs.Verdicts.{rule_ok, lowest_fault, order, Verdict, tried_of, first_broken, verdict_of, KeptAll, Keeps, Breaks, Means}
use Rattle.rules.proofs.Linked.{link_filled, link_inner}
use Rattle.rules.proofs.Exact.{header_exactly, rule_exactly}

-- ---- one rule after another

-- what a rule r that has been tried shows: where it is broken, or that it is kept
module _ (v : View) (r : Rule) where
  -- what a loop over the nodes has found: the first that fails, or none
  pub tried_stop : (n : ℕ) → n < v.count → ((k : ℕ) → k < n → rule_ok r v k ≡ true) → rule_ok r v n ≡ false → Err (Broken r n) ≡ tried_of v r
  unfolding tried_of
  tried_stop n h b e =
      let f = first_stop (rule_ok r v) v.count n h b e in
      rw (sym f, lt-ltb n v.count h)

  pub tried_end : (n : ℕ) → n ≡ v.count → ((k : ℕ) → k < n → rule_ok r v k ≡ true) → Ok tt ≡ tried_of v r
  unfolding tried_of
  tried_end n e b =
      let f = first_end (rule_ok r v) v.count n e b in
      rw (sym f, le-ltb n v.count (omega arith))

  none_broken : {u : Unit {0}} → Ok u ≡ tried_of v r → v.count ≤ lowest_fault r v
  unfolding tried_of
  none_broken e = by (ltb (lowest_fault r v) v.count) refl e
    where
      by : {u : Unit {0}} (t : Bool) → ltb (lowest_fault r v) v.count ≡ t → Ok u ≡ cond t (Err (Broken r (lowest_fault r v))) (Ok tt) → v.count ≤ lowest_fault r v
      by true l e = absurd (cc)
      by false l e = ltb-false (lowest_fault r v) v.count l

  pub kept_by : v.count ≤ lowest_fault r v → KeptAll r v
  kept_by h n l = (rule_exactly r v n).sound (first_none (rule_ok r v) v.count h n l)

  kept : {u : Unit {0}} → Ok u ≡ tried_of v r → KeptAll r v
  kept e = kept_by (none_broken e)

  -- a rule that is kept has no fault
  pub none_at_fault : KeptAll r v → lowest_fault r v ≡ v.count
  none_at_fault k = first_all (rule_ok r v) v.count (λ n l. (rule_exactly r v n).complete (k n l))

  pub kept_tried : KeptAll r v → Ok tt ≡ tried_of v r
  unfolding tried_of
  kept_tried k = rw (none_at_fault k, le-ltb v.count v.count (omega arith))

  past : (rs : List Rule) → v.count ≤ lowest_fault r v → first_broken v (r ∷ rs) ≡ first_broken v rs
  unfolding first_broken
  past rs h = rw (le-ltb (lowest_fault r v) v.count h)

-- a refusal, or what is tried next
abbrev next : Verdict → Verdict → Verdict
next (Ok u) x = x
next (Err e) x = Err e

first_tried : (v : View) (r : Rule) (rs : List Rule) → first_broken v (r ∷ rs) ≡ next (tried_of v r) (first_broken v rs)
unfolding tried_of first_broken
first_tried v r rs = by (ltb (lowest_fault r v) v.count)
  where
    by : (t : Bool) → cond t (Err (Broken r (lowest_fault r v))) (first_broken v rs) ≡ next (cond t (Err (Broken r (lowest_fault r v))) (Ok tt)) (first_broken v rs)
    by true = refl
    by false = refl

-- past the header, the verdict on bytes b, which are those of a map m, is that of the rules in turn
pub in_turn : (b m : List ℕ) → m ≡ b → header_ok (view_of m) ≡ true → verdict_of b ≡ next (tried_of (view_of m) Form) (next (tried_of (view_of m) Fill) (next (tried_of (view_of m) Links) (next (tried_of (view_of m) Boxes) (next (tried_of (view_of m) Bays) (Ok tt)))))
unfolding verdict_of first_broken
in_turn b m e h = sym (ap verdict_of e) ∙ rw h (simp first_tried)

-- ---- what the rules one after another answer

-- every node keeps each rule of a list
abbrev AllKept : View → List Rule → Type 0
AllKept v rs = (r : Rule) → Memᴰ r rs → KeptAll r v

none_kept : (v : View) → AllKept v []
none_kept v r i = absurd (Memᴰ.not-nil i)

kept_more : (v : View) (r : Rule) (rs : List Rule) → KeptAll r v → AllKept v rs → AllKept v (r ∷ rs)
kept_more v r rs k h q i = ⊎_elim (λ e. rw e k) (h q) (Memᴰ.cases_cons i)

-- what a verdict says of the rules of rs
abbrev Says : View → List Rule → Verdict → Type 0
Says v rs (Ok u) = AllKept v rs
Says v rs (Err BadHeader) = ⊥
Says v rs (Err (Broken r n)) = Breaks v rs r n

-- it says as much where a rule that holds stands in front
says_more : (v : View) (r : Rule) (rs : List Rule) (a : Verdict) → KeptAll r v → Says v rs a → Says v (r ∷ rs) a
says_more v r rs (Ok u) k s = kept_more v r rs k s
says_more v r rs (Err BadHeader) k s = s
says_more v r rs (Err (Broken q n)) k s =
    record {
      earlier = r ∷ s.earlier;
      later = s.later;
      split = ap (λ (l : List Rule). r ∷ l) s.split;
      held = kept_more v r s.earlier k s.held;
      within = s.within;
      fails = s.fails;
      below = s.below;
    }

-- a rule whose lowest fault is a node stops the check there
says_stop : (v : View) (r : Rule) (rs : List Rule) → lowest_fault r v < v.count → Breaks v (r ∷ rs) r (lowest_fault r v)
says_stop v r rs l =
    let first = first_is (rule_ok r v) v.count in
    record {
      earlier = [];
      later = rs;
      split = refl;
      held = none_kept v;
      within = l;
      fails = λ k. true≢false (sym ((rule_exactly r v (lowest_fault r v)).complete k) ∙ first.fails l);
      below = λ k h. (rule_exactly r v k).sound (first.before k h);
    }

-- the answer of the rules one after another says what is so
says : (v : View) (rs : List Rule) → Says v rs (first_broken v rs)
unfolding first_broken
says v [] = none_kept v
says v (r ∷ rs) = by (says v rs) (ltb (lowest_fault r v) v.count) refl
  where
    by : Says v rs (first_broken v rs) → (t : Bool) → ltb (lowest_fault r v) v.count ≡ t → Says v (r ∷ rs) (cond t (Err (Broken r (lowest_fault r v))) (first_broken v rs))
    by s true e = says_stop v r rs (ltb-true (lowest_fault r v) v.count e)
    by s false e = says_more v r rs (first_broken v rs) (kept_by v r (ltb-false (lowest_fault r v) v.count e)) s

-- where every rule is kept there is nothing to refuse
all_accepted : (v : View) → ((r : Rule) → KeptAll r v) → (rs : List Rule) → first_broken v rs ≡ Ok tt
unfolding first_broken
all_accepted v k [] = refl
all_accepted v k (r ∷ rs) = past v r rs (omega (arith, none_at_fault v r (k r))) ∙ all_accepted v k rs

-- ---- what a verdict means

-- every rule is tried
tried : (r : Rule) → Memᴰ r order
tried Form = Memᴰ.head refl
tried Fill = Memᴰ.tail (Memᴰ.head refl)
tried Links = Memᴰ.tail (Memᴰ.tail (Memᴰ.head refl))
tried Boxes = Memᴰ.tail (Memᴰ.tail (Memᴰ.tail (Memᴰ.head refl)))
tried Bays = Memᴰ.tail (Memᴰ.tail (Memᴰ.tail (Memᴰ.tail (Memᴰ.head refl))))

pub verdict_means : (m : List ℕ) → Means (view_of m) (verdict_of m)
unfolding verdict_of
verdict_means m = by (header_ok (view_of m)) refl
  where
    ruled : (a : Verdict) → HeaderRight (view_of m) → Says (view_of m) order a → Means (view_of m) a
    ruled (Ok u) h s = record { header = h; rules = λ r. s r (tried r) }
    ruled (Err BadHeader) h s = absurd s
    ruled (Err (Broken r n)) h s = (h, s)

    by : (t : Bool) → header_ok (view_of m) ≡ t → Means (view_of m) (cond t (first_broken (view_of m) order) (Err BadHeader))
    by true e =
        ruled (first_broken (view_of m) order) ((header_exactly (view_of m)).sound e) (says (view_of m) order)
    by false e = λ h. true≢false (sym ((header_exactly (view_of m)).complete h) ∙ e)

-- a refusal: the header is right, and r and n are the first rule broken and the lowest node that breaks it
pub verdict_first : (m : List ℕ) (r : Rule) (n : ℕ) → verdict_of m ≡ Err (Broken r n) → HeaderRight (view_of m) × Breaks (view_of m) order r n
verdict_first m r n e = rw e at (verdict_means m)

pub accepted_sound : (m : List ℕ) → verdict_of m ≡ Ok tt → Keeps (view_of m)
accepted_sound m e = rw e at (verdict_means m)

pub accepted_complete : (m : List ℕ) → Keeps (view_of m) → verdict_of m ≡ Ok tt
unfolding verdict_of
accepted_complete m k =
    let v = view_of m in
    rw ((header_exactly v).complete k.header) (all_accepted v k.rules order)

-- ---- what a rule that holds gives to the rules after it

pub shaped : {v : View} → HeaderRight v → Shaped v
shaped h = record { few = h.few; rooted = h.rooted; size = h.size }

-- the same from the header's test
pub header_shaped : (m : List ℕ) → header_ok (view_of m) ≡ true → Shaped (view_of m)
header_shaped m h = shaped ((header_exactly (view_of m)).sound h)

-- a filled slot above the leaves refers to a node
pub form_links : (v : View) → KeptAll Form v → (j : ℕ) → j < 8 * v.count → link v j ≡ true → v.ref j < v.count
form_links v k =
    by_eights (λ j. link v j ≡ true → v.ref j < v.count) v.count (λ n a i s l.
    (((k n a).entries i s (link_filled v (8 * n + i) l)).refer.node (link_inner v (8 * n + i) l)).0)

-- the same where the rule has been tried
pub tried_links : (v : View) {u : Unit {0}} → Ok u ≡ tried_of v Form → (j : ℕ) → j < 8 * v.count → link v j ≡ true → v.ref j < v.count
tried_links v e = form_links v (kept v Form e)
