-- An order by a number and, where that is the same, by another order: it is a strict order, tells apart what either of
-- them does, and what is farther waits. Assumes nothing.
use Prim.Native.Nat.{ℕ, ◌≤◌, ◌<◌}
use native.Mathlib.Omega.{arith}
use native.Mathlib.Decide.{ℕ_discrete}
use mathlib.Core.Path.{◌≡◌, sym, ◌∙◌}
use mathlib.Core.Logic.{◌⊎◌, inl, inr, ⊎_elim}
use mathlib.Core.Bool.{Bool, true, false}
use lib.Dec.{eqb, ltb}
use borrow.Author.Tests.{eqb-true, eqb-false, eq-eqb, ne_eqb, ltb-true, ltb-false, lt-ltb, le-ltb}
use Rattle.order.specs.Order.{Order, Apart}
use Rattle.order.specs.Ranked.{lower, ranked}
use Rattle.order.proofs.Place.{by_test}

-- by a number alone
module _ {A : Type 0} (d : A → ℕ) where
  pub lower_order : Order (lower d)
  lower_order =
      record {
        asym = λ a b h. le-ltb (d b) (d a) (let l = ltb-true (d a) (d b) h in omega arith);
        trans = λ a b c h k. le-ltb (d c) (d a) (let l = ltb-false (d b) (d a) h in let m = ltb-false (d c) (d b) k in omega arith);
      }

  pub lower_apart : (a b : A) → (d a ≡ d b → ⊥) → Apart (lower d) a b
  lower_apart a b ne = by_test (ltb (d a) (d b)) inl (λ e. inr (lt-ltb (d b) (d a) (let l = ltb-false (d a) (d b) e in omega arith)))

-- by a number, and then by an order
module _ {A : Type 0} (d : A → ℕ) (lt : A → A → Bool) where
  abbrev Comes : A → A → Type 0
  Comes a b = (d a < d b) ⊎ ((d a ≡ d b) × (lt a b ≡ true))

  abbrev Waits : A → A → Type 0
  Waits a b = (d b < d a) ⊎ ((d a ≡ d b) × (lt a b ≡ false))

  module _ (a b : A) where
    tied : d a ≡ d b → ranked d lt a b ≡ lt a b
    tied h = simp (eq-eqb (d a) (d b) h)

    untied : (d a ≡ d b → ⊥) → ranked d lt a b ≡ ltb (d a) (d b)
    untied h = simp (ne_eqb (d a) (d b) h)

    comes : ranked d lt a b ≡ true → Comes a b
    comes h =
        by_test (eqb (d a) (d b))
        (λ t. let q = eqb-true (d a) (d b) t in inr (q, sym (tied q) ∙ h))
        (λ t. inl (ltb-true (d a) (d b) (sym (untied (eqb-false (d a) (d b) t)) ∙ h)))

    waits : ranked d lt a b ≡ false → Waits a b
    waits h =
        by_test (eqb (d a) (d b))
        (λ t. let q = eqb-true (d a) (d b) t in inr (q, sym (tied q) ∙ h))
        (λ t. let q = eqb-false (d a) (d b) t in inl (other q (ltb-false (d a) (d b) (sym (untied q) ∙ h))))
      where
        other : (d a ≡ d b → ⊥) → d b ≤ d a → d b < d a
        other q l = omega arith

    comes_true : Comes a b → ranked d lt a b ≡ true
    comes_true (inl h) = untied (λ q. absurd (omega arith)) ∙ lt-ltb (d a) (d b) h
    comes_true (inr h) = tied h.0 ∙ h.1

    waits_false : Waits a b → ranked d lt a b ≡ false
    waits_false (inl h) = untied (λ q. absurd (omega arith)) ∙ le-ltb (d a) (d b) (omega arith)
    waits_false (inr h) = tied h.0 ∙ h.1

    -- what is strictly farther does not come before; what is as far may
    pub farther_waits : d b < d a → ranked d lt a b ≡ false
    farther_waits h = waits_false (inl h)

    -- what is strictly nearer comes before, and what does not come before is no nearer
    pub nearer_comes : d a < d b → ranked d lt a b ≡ true
    nearer_comes h = comes_true (inl h)

    pub waits_farther : ranked d lt a b ≡ false → d b ≤ d a
    waits_farther h = ⊎_elim (λ f. omega arith) (λ t. omega (arith, t.0)) (waits h)

    -- and of two as near, what comes first by the other order
    pub tied_comes : d a ≡ d b → lt a b ≡ true → ranked d lt a b ≡ true
    tied_comes q h = comes_true (inr (q, h))

  -- what either tells apart
  pub ranked_apart : (a b : A) → (d a ≡ d b → Apart lt a b) → Apart (ranked d lt) a b
  ranked_apart a b f =
      elim (ℕ_discrete (d a) (d b)) [
        | yes q ↦ ⊎_elim (λ h. inl (comes_true a b (inr (q, h)))) (λ h. inr (comes_true b a (inr (sym q, h)))) (f q)
        | no q ↦ by_test (ltb (d a) (d b)) (λ h. inl (comes_true a b (inl (ltb-true (d a) (d b) h)))) (λ h. inr (comes_true b a (inl (let l = ltb-false (d a) (d b) h in omega arith))))
      ]

  module _ (o : Order lt) where
    turned : (a b : A) → Comes a b → Waits b a
    turned a b (inl h) = inl h
    turned a b (inr h) = inr (sym h.0, o.asym a b h.1)

    through : (a b c : A) → Waits b a → Waits c b → Waits c a
    through a b c (inl h) (inl k) = inl (omega arith)
    through a b c (inl h) (inr k) = inl (omega (arith, k.0))
    through a b c (inr h) (inl k) = inl (omega (arith, h.0))
    through a b c (inr h) (inr k) = inr (k.0 ∙ h.0, o.trans a b c h.1 k.1)

    pub ranked_order : Order (ranked d lt)
    ranked_order =
        record {
          asym = λ a b h. waits_false b a (turned a b (comes a b h));
          trans = λ a b c h k. waits_false c a (through a b c (waits b a h) (waits c b k));
        }
