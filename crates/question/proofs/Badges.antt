-- Who may ask: a badge is refused exactly when it has 0 zones or 9 to 31, for all 32 are the badge for service.
-- Assumes nothing.
use mathlib.Core.Path.{◌≡◌, ap, ◌∙◌}
use mathlib.Core.Bool.{not}
use mathlib.Core.Logic.{◌⊎◌, inl, inr, ⊎_elim}
use Prim.Native.Nat.{ℕ, zero, suc, ◌+◌, ◌-◌, ◌/◌, ◌%◌, ◌^◌, ◌<◌, ◌≤◌}
use native.Mathlib.Omega.{arith, pow_step}
use native.Mathlib.Decide.{ℕ_discrete}
use lib.Count.{ones, ones_step, ones-le, ones-ones}
use Rattle.numbers.specs.Exactly.{Exactly}
use Rattle.numbers.proofs.Exactly.{eq_is, not_is, le_is, and_is, or_is, means}
use Rattle.numbers.proofs.Below.{le_cases}
use Rattle.question.specs.Badge.{badge_ok, all_zones, zone_limit}

-- all k digits are ones
ones_full : (k n : ℕ) → n < 2 ^ k → ones n ≡ k → n ≡ 2 ^ k - 1
ones_full zero n h e = omega arith
ones_full (suc k) n h e =
    let p = pow_step 2 k in
    let half : n / 2 < 2 ^ k = omega arith in
    let most : ones (n / 2) ≤ k = ones-le k (n / 2) half in
    let step : ones n ≡ n % 2 + ones (n / 2) = ones_step n in
    let full : ones (n / 2) ≡ k = omega arith in
    omega (arith, ones_full k (n / 2) half full)

-- all 32 zones are the badge for service
badge_full : (bits : ℕ) → bits < 2 ^ 32 → ones bits ≡ 32 → bits ≡ all_zones
badge_full bits h e = ones_full 32 bits h e

pub badge_is : (bits : ℕ) → bits < 2 ^ 32 → Exactly (not (badge_ok bits)) ((ones bits ≡ 0) ⊎ ((9 ≤ ones bits) × (ones bits ≤ 31)))
unfolding badge_ok
badge_is bits h = means (not_is (badge_ok bits) (or_is (and_is (le_is 1 (ones bits)) (le_is (ones bits) zone_limit)) (eq_is bits all_zones))) there back
  where
    most : ones bits ≤ 32
    most = ones-le 32 bits h

    few : (ones bits ≡ 0 → ⊥) → (((1 ≤ ones bits) × (ones bits ≤ zone_limit)) ⊎ (bits ≡ all_zones) → ⊥) → (9 ≤ ones bits) × (ones bits ≤ 31)
    few some out = (
      elim (le_cases 9 (ones bits)) [ inl a ↦ a | inr b ↦ absurd (out (inl (omega arith, omega arith))) ],
      elim (le_cases (ones bits) 31) [ inl a ↦ a | inr b ↦ absurd (out (inr (badge_full bits h (omega (arith, most))))) ],
    )

    there : (((1 ≤ ones bits) × (ones bits ≤ zone_limit)) ⊎ (bits ≡ all_zones) → ⊥) → (ones bits ≡ 0) ⊎ ((9 ≤ ones bits) × (ones bits ≤ 31))
    there out = elim (ℕ_discrete (ones bits) 0) [ yes e ↦ inl e | no d ↦ inr (few d out) ]

    back : (ones bits ≡ 0) ⊎ ((9 ≤ ones bits) × (ones bits ≤ 31)) → ((1 ≤ ones bits) × (ones bits ≤ zone_limit)) ⊎ (bits ≡ all_zones) → ⊥
    back (inl e) (inl p) = omega (arith, e, p.0)
    back (inr e) (inl p) = omega (arith, e.0, p.1)
    back b (inr p) =
        let all : ones bits ≡ 32 = ap ones p ∙ ones-ones 32 in
        ⊎_elim (λ e. omega (arith, e, all)) (λ e. omega (arith, e.1, all)) b
