-- Each rule's test holds exactly when its property does.
-- Assumes nothing.
use mathlib.Core.Path.{◌≡◌, refl, sym, ap, ap₂, ◌∙◌}
use mathlib.Core.Bool.{Bool, true, false, cond, ◌||◌, true≢false}
use mathlib.Core.Logic.{◌⊎◌, inl, inr}
use Prim.Native.Nat.{ℕ, ◌+◌, ◌*◌, ◌/◌, ◌<◌}
use native.Mathlib.Omega.{arith}
use lib.IntN.{ℤ}
use lib.Signed.{le_z}
use Rattle.numbers.specs.Below.{all_below}
use Rattle.numbers.specs.Exactly.{Exactly}
use Rattle.numbers.proofs.Order.{le_self, le_both}
use Rattle.numbers.proofs.Exactly.{flag_is, eq_is, ne_is, le_is, lt_is, and_is, or_is, means, when_is, cond_is, if_is, all_is}
use Rattle.measure.specs.declared.Span.{Span}
use Rattle.floor.specs.View.{View, filled, leaf, link}
use Rattle.floor.specs.Layout.{axis_count}
use Rattle.bays.proofs.Exact.{bays_exactly}
use Rattle.rules.specs.declared.Rule.{Rule}
use Rattle.rules.specs.declared.Rule.TheVariants.{Form, Fill, Links, Boxes, Bays}
use Rattle.rules.specs.Header.{fields_ok, header_ok, HeaderRight}
use Rattle.rules.specs.Form.{refer_ok, entry_ok, blank_ok, slot_ok, form_ok, Refer, Entry, Blank, InForm}
use Rattle.rules.specs.Fill.{fill_ok, WellFilled}
use Rattle.rules.specs.Links.{named_ok, step_ok, links_ok, WellLinked}
use Rattle.rules.specs.Boxes.{tight_ok, boxes_ok, WellBoxed}
use Rattle.rules.specs.Spans.{same_z, same_span}
use Rattle.rules.specs.Verdicts.{rule_ok, RuleKept}
use Rattle.rules.proofs.Linked.{link_above, link_filled, link_inner}

-- ---- equal integers and equal spans

pub same_z_is : (a b : ℤ) → Exactly (same_z a b) (a ≡ b)
same_z_is a b =
    means (and_is (flag_is (le_z a b)) (flag_is (le_z b a))) (λ h. le_both a b h.0 h.1) (λ e. rw e (le_self b, le_self b))

pub same_span_is : (s t : Span) → Exactly (same_span s t) (s ≡ t)
unfolding same_span
same_span_is s t =
    means
    (and_is (same_z_is s.low t.low) (same_z_is s.high t.high))
    (λ h. ap₂ (λ (l h : ℤ). record { low = l; high = h }) h.0 h.1)
    (λ e. (ap (λ (s : Span). s.low) e, ap (λ (s : Span). s.high) e))

-- ---- rule 11

pub header_exactly : (v : View) → Exactly (header_ok v) (HeaderRight v)
unfolding header_ok fields_ok
header_exactly v =
    means
    (and_is
    (le_is _ _)
    (and_is
    (and_is
    (and_is (and_is (and_is (and_is (le_is _ _) (le_is _ _)) (lt_is _ _)) (le_is _ _)) (le_is _ _))
    (flag_is _))
    (eq_is _ _)))
    (λ h. let f = h.1 in
    record {
      headed = h.0;
      some = f.0.0.0.0.0.0;
      few = f.0.0.0.0.0.1;
      rooted = f.0.0.0.0.1;
      tall = f.0.0.0.1;
      low = f.0.0.1;
      clear = f.0.1;
      size = f.1;
    })
    (λ r. (r.headed, ((((((r.some, r.few), r.rooted), r.tall), r.low), r.clear), r.size)))

-- ---- rule 12

refer_is : (v : View) (j : ℕ) → Exactly (refer_ok v j) (Refer v j)
unfolding refer_ok
refer_is v j =
    means
    (cond_is _ (and_is (ne_is _ _) (lt_is _ _)) (and_is (lt_is _ _) (eq_is _ _)))
    (λ h. record { bay = h.0; node = h.1 })
    (λ r. (r.bay, r.node))

entry_is : (v : View) (j : ℕ) → Exactly (entry_ok v j) (Entry v j)
unfolding entry_ok
entry_is v j =
    means
    (and_is (and_is (all_is (λ a. flag_is _) axis_count) (refer_is v j)) (flag_is _))
    (λ h. record { spans = h.0.0; refer = h.0.1; clear = h.1 })
    (λ r. ((r.spans, r.refer), r.clear))

blank_is : (v : View) (j : ℕ) → Exactly (blank_ok v j) (Blank v j)
unfolding blank_ok
blank_is v j =
    means
    (and_is (and_is (and_is (all_is (λ a. same_span_is _ _) axis_count) (eq_is _ _)) (eq_is _ _)) (flag_is _))
    (λ h. record { spans = h.0.0.0; ref = h.0.0.1; zone = h.0.1; clear = h.1 })
    (λ r. (((r.spans, r.ref), r.zone), r.clear))

form_exactly : (v : View) (n : ℕ) → Exactly (form_ok v n) (InForm v n)
unfolding form_ok slot_ok
form_exactly v n =
    means
    (and_is
    (and_is (lt_is _ _) (flag_is _))
    (all_is (λ i. cond_is _ (entry_is v (8 * n + i)) (blank_is v (8 * n + i))) 8))
    (λ h. record { low = h.0.0; clear = h.0.1; entries = λ i k. (h.1 i k).0; blanks = λ i k. (h.1 i k).1 })
    (λ r. ((r.low, r.clear), λ i k. (r.entries i k, r.blanks i k)))

-- ---- rule 13

fill_exactly : (v : View) (n : ℕ) → Exactly (fill_ok v n) (WellFilled v n)
unfolding fill_ok
fill_exactly v n =
    means
    (if_is _ (eq_is n v.root) (or_is (eq_is _ _) (le_is _ _)) (le_is _ _))
    (λ h. record { root = h.0; other = h.1 })
    (λ r. (r.root, r.other))

-- ---- rules 14 and 15

-- a test of a node's slots that asks nothing of a leaf is a test of the slots that name a node
above_is : (v : View) (n : ℕ) {t : ℕ → Bool} {P : ℕ → Type 0} → ((i : ℕ) → Exactly (t i) (P i)) → Exactly (leaf v n || all_below (λ i. cond (filled v (8 * n + i)) (t i) true) 8) ((i : ℕ) → i < 8 → link v (8 * n + i) ≡ true → P i)
above_is v n {t} {P} f =
    means (or_is (flag_is (leaf v n)) (all_is (λ i. when_is (filled v (8 * n + i)) (f i)) 8)) there (back (leaf v n) refl)
  where
    home : (i : ℕ) → i < 8 → leaf v ((8 * n + i) / 8) ≡ leaf v n
    home i h = let e : (8 * n + i) / 8 ≡ n = omega arith in ap (leaf v) e

    there : (leaf v n ≡ true) ⊎ ((i : ℕ) → i < 8 → filled v (8 * n + i) ≡ true → P i) → (i : ℕ) → i < 8 → link v (8 * n + i) ≡ true → P i
    there (inl e) i h l = absurd (true≢false (sym e ∙ sym (home i h) ∙ link_inner v (8 * n + i) l))
    there (inr g) i h l = g i h (link_filled v (8 * n + i) l)

    back : (b : Bool) → leaf v n ≡ b → ((i : ℕ) → i < 8 → link v (8 * n + i) ≡ true → P i) → (b ≡ true) ⊎ ((i : ℕ) → i < 8 → filled v (8 * n + i) ≡ true → P i)
    back true e g = inl refl
    back false e g = inr (λ i h k. g i h (link_above v (8 * n + i) (home i h ∙ e) ∙ k))

links_exactly : (v : View) (n : ℕ) → Exactly (links_ok v n) (WellLinked v n)
unfolding links_ok named_ok step_ok
links_exactly v n =
    means
    (and_is
    (if_is _ (eq_is n v.root) (and_is (eq_is _ _) (eq_is _ _)) (eq_is _ _))
    (above_is v n (λ i. eq_is _ _)))
    (λ h. record { unnamed = λ e. (h.0.0 e).0; top = λ e. (h.0.0 e).1; once = h.0.1; falls = λ i k l. h.1 i k l ∙ level_home i k })
    (λ r. ((λ e. (r.unnamed e, r.top e), r.once), λ i k l. r.falls i k l ∙ sym (level_home i k)))
  where
    level_home : (i : ℕ) → i < 8 → v.level ((8 * n + i) / 8) ≡ v.level n
    level_home i k = let e : (8 * n + i) / 8 ≡ n = omega arith in ap v.level e

boxes_exactly : (v : View) (n : ℕ) → Exactly (boxes_ok v n) (WellBoxed v n)
unfolding boxes_ok tight_ok
boxes_exactly v n = above_is v n (λ i. all_is (λ a. same_span_is _ _) axis_count)

-- ---- every rule

pub rule_exactly : (r : Rule) (v : View) (n : ℕ) → Exactly (rule_ok r v n) (RuleKept r v n)
rule_exactly Form v n = form_exactly v n
rule_exactly Fill v n = fill_exactly v n
rule_exactly Links v n = links_exactly v n
rule_exactly Boxes v n = boxes_exactly v n
rule_exactly Bays v n = bays_exactly v n
