-- How tests that hold exactly when a property does are put together. Assumes nothing.
use mathlib.Core.Path.{◌≡◌, refl}
use mathlib.Core.Bool.{Bool, true, false, not, cond, ◌&&◌, ◌||◌, true≢false, false≢true}
use mathlib.Core.Logic.{◌⊎◌, inl, inr, ⊎_elim}
use Prim.Native.Nat.{ℕ, ◌+◌, ◌*◌, ◌/◌, ◌%◌, ◌<◌, ◌≤◌}
use native.Mathlib.Omega.{arith}
use lib.Dec.{eqb, leb, ltb}
use borrow.Author.Tests.{eqb-true, leb-true, ltb-true, eq-eqb, le-leb, lt-ltb}
use Rattle.numbers.specs.Below.{all_below}
use Rattle.numbers.specs.Exactly.{Exactly}
use Rattle.std.proofs.Math.Bool.{or-true}
use Rattle.std.proofs.lemmas.Bool.{and_parts, or_cases}
use Rattle.numbers.proofs.Below.{all_sound, all_complete}

pub flag_is : (t : Bool) → Exactly t (t ≡ true)
flag_is t = record { sound = λ e. e; complete = λ e. e }

pub eq_is : (a b : ℕ) → Exactly (eqb a b) (a ≡ b)
eq_is a b = record { sound = eqb-true a b; complete = eq-eqb a b }

pub not_is : (t : Bool) {P : Type 0} → Exactly t P → Exactly (not t) (P → ⊥)
not_is true a = record { sound = λ e. absurd (false≢true e); complete = λ h. absurd (h (a.sound refl)) }
not_is false a = record { sound = λ e p. false≢true (a.complete p); complete = λ h. refl }

pub ne_is : (a b : ℕ) → Exactly (not (eqb a b)) (a ≡ b → ⊥)
ne_is a b = not_is (eqb a b) (eq_is a b)

pub le_is : (a b : ℕ) → Exactly (leb a b) (a ≤ b)
le_is a b = record { sound = leb-true a b; complete = le-leb a b }

pub lt_is : (a b : ℕ) → Exactly (ltb a b) (a < b)
lt_is a b = record { sound = ltb-true a b; complete = lt-ltb a b }

pub and_is : {s t : Bool} {P Q : Type 0} → Exactly s P → Exactly t Q → Exactly (s && t) (P × Q)
and_is {s} {t} a b =
    record {
      sound = λ e. let h = and_parts s t e in (a.sound h.0, b.sound h.1);
      complete = λ h. rw (a.complete h.0, b.complete h.1);
    }

pub or_is : {s t : Bool} {P Q : Type 0} → Exactly s P → Exactly t Q → Exactly (s || t) (P ⊎ Q)
or_is {s} {t} a b =
    record {
      sound = λ e. ⊎_elim (λ h. inl (a.sound h)) (λ h. inr (b.sound h)) (or_cases s t e);
      complete = ⊎_elim (λ p. rw (a.complete p)) (λ q. rw (b.complete q) (or-true s));
    }

-- the same test for a property in other words
pub means : {t : Bool} {P Q : Type 0} → Exactly t P → (P → Q) → (Q → P) → Exactly t Q
means a f g = record { sound = λ e. f (a.sound e); complete = λ q. a.complete (g q) }

-- a test made only where c holds
pub when_is : (c : Bool) {t : Bool} {P : Type 0} → Exactly t P → Exactly (cond c t true) (c ≡ true → P)
when_is true a = record { sound = λ e _. a.sound e; complete = λ h. a.complete (h refl) }
when_is false a = record { sound = λ e f. absurd (false≢true f); complete = λ h. refl }

-- a choice between two tests: each property where its side was chosen
pub cond_is : (c : Bool) {s t : Bool} {P Q : Type 0} → Exactly s P → Exactly t Q → Exactly (cond c s t) ((c ≡ true → P) × (c ≡ false → Q))
cond_is true a b =
    record { sound = λ e. (λ _. a.sound e, λ f. absurd (true≢false f)); complete = λ h. a.complete (h.0 refl) }
cond_is false a b =
    record { sound = λ e. (λ f. absurd (false≢true f), λ _. b.sound e); complete = λ h. b.complete (h.1 refl) }

-- the same where the choice is itself the test of a property
pub if_is : (c : Bool) {s t : Bool} {C P Q : Type 0} → Exactly c C → Exactly s P → Exactly t Q → Exactly (cond c s t) ((C → P) × ((C → ⊥) → Q))
if_is true d a b =
    record {
      sound = λ e. (λ _. a.sound e, λ n. absurd (n (d.sound refl)));
      complete = λ h. a.complete (h.0 (d.sound refl));
    }
if_is false d a b =
    record {
      sound = λ e. (λ p. absurd (false≢true (d.complete p)), λ _. b.sound e);
      complete = λ h. b.complete (h.1 (λ p. false≢true (d.complete p)));
    }

pub all_is : {p : ℕ → Bool} {P : ℕ → Type 0} → ((k : ℕ) → Exactly (p k) (P k)) → (n : ℕ) → Exactly (all_below p n) ((k : ℕ) → k < n → P k)
all_is {p} f n =
    record {
      sound = λ e k h. (f k).sound (all_sound p n e k h);
      complete = λ h. all_complete p n (λ k l. (f k).complete (h k l));
    }

-- every number below 8 · n is 8 · m + i for an m below n and an i below 8
pub by_eights : (P : ℕ → Type 0) (n : ℕ) → ((m : ℕ) → m < n → (i : ℕ) → i < 8 → P (8 * m + i)) → (k : ℕ) → k < 8 * n → P k
by_eights P n h k l =
    let e : 8 * (k / 8) + k % 8 ≡ k = omega arith in
    rw e at (h (k / 8) (omega arith) (k % 8) (omega arith))

-- a test of every number below 8 · n, made eight at a time
pub eights_is : {p : ℕ → Bool} {P : ℕ → Type 0} → ((k : ℕ) → Exactly (p k) (P k)) → (n : ℕ) → Exactly (all_below (λ m. all_below (λ i. p (8 * m + i)) 8) n) ((k : ℕ) → k < 8 * n → P k)
eights_is {p} {P} f n =
    means (all_is (λ m. all_is (λ i. f (8 * m + i)) 8) n) (by_eights P n) (λ h m l i b. h (8 * m + i) (omega arith))
