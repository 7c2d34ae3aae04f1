-- Exactly when, tried in this order: for any list of tests and what they are given for. Assumes nothing.
use mathlib.Core.Path.{◌≡◌, refl, sym, ◌∙◌}
use mathlib.Core.Bool.{Bool, true, false, cond, false≢true}
use mathlib.Core.List.{List, [], ◌∷◌, ◌++◌, Memᴰ}
use mathlib.Core.Logic.{◌⊎◌, inl, inr}
use Prim.Native.Nat.{ℕ}
use lib.Dec.{eqb}
use borrow.Author.Tests.{eqb-true, eq-eqb, ne_eqb}
use Rattle.numbers.specs.Exactly.{Exactly}
use Rattle.numbers.specs.Tried.{Test, first_given, Row, Tried, Agree}

-- one row, and those after it
module _ (a b n : ℕ) (e : a ≡ b) {P Q : Type 0} where
  first : (t : Bool) (r : ℕ) → Exactly t P → (r ≡ n → Q) → cond t a r ≡ n → (P × (n ≡ b)) ⊎ ((P → ⊥) × Q)
  first true r x f h = inl (x.sound refl, sym h ∙ e)
  first false r x f h = inr ((λ p. false≢true (x.complete p)), f h)

  back : (t : Bool) (r : ℕ) → Exactly t P → (Q → r ≡ n) → (P × (n ≡ b)) ⊎ ((P → ⊥) × Q) → cond t a r ≡ n
  back true r x f (inl h) = e ∙ sym h.1
  back true r x f (inr h) = absurd (h.0 (x.sound refl))
  back false r x f (inl h) = absurd (false≢true (x.complete h.0))
  back false r x f (inr h) = f h.1

tried_sound : (ts : List Test) (rs : List Row) → Agree ts rs → (n : ℕ) → first_given ts ≡ n → Tried rs n
unfolding first_given Tried Agree
tried_sound [] [] g n h = sym h
tried_sound [] (r ∷ rs) g n h = absurd g
tried_sound (t ∷ ts) [] g n h = absurd g
tried_sound (t ∷ ts) (r ∷ rs) g n h = first t.number r.number n g.0 t.given (first_given ts) g.1 (tried_sound ts rs g.2 n) h

tried_complete : (ts : List Test) (rs : List Row) → Agree ts rs → (n : ℕ) → Tried rs n → first_given ts ≡ n
unfolding first_given Tried Agree
tried_complete [] [] g n h = sym h
tried_complete [] (r ∷ rs) g n h = absurd g
tried_complete (t ∷ ts) [] g n h = absurd g
tried_complete (t ∷ ts) (r ∷ rs) g n h = back t.number r.number n g.0 t.given (first_given ts) g.1 (tried_complete ts rs g.2 n) h

-- the number is given exactly when the rows say, tried in their order
pub tried_exactly : (ts : List Test) (rs : List Row) → Agree ts rs → (n : ℕ) → Exactly (eqb (first_given ts) n) (Tried rs n)
tried_exactly ts rs g n =
    record {
      sound = λ h. tried_sound ts rs g n (eqb-true (first_given ts) n h);
      complete = λ h. eq-eqb (first_given ts) n (tried_complete ts rs g n h);
    }

-- where none is given, none of the tests is
pub none_given : (t : Test) (ts : List Test) → (t.number ≡ 0 → ⊥) → first_given (t ∷ ts) ≡ 0 → (t.given ≡ false) × (first_given ts ≡ 0)
unfolding first_given
none_given t ts ne h = go t.given h
  where
    go : (g : Bool) → cond g t.number (first_given ts) ≡ 0 → (g ≡ false) × (first_given ts ≡ 0)
    go true e = absurd (ne e)
    go false e = (refl, e)

-- no test gives 0
abbrev pub Numbered : List Test → Type 0
Numbered ts = (t : Test) → Memᴰ t ts → t.number ≡ 0 → ⊥

-- tests after tests: the later ones count where none of the earlier ones is given
pub given_append : (ts us : List Test) → Numbered ts → first_given (ts ++ us) ≡ cond (eqb (first_given ts) 0) (first_given us) (first_given ts)
unfolding first_given
given_append [] us h = refl
given_append (t ∷ ts) us h = go t.given (given_append ts us (λ x m. h x (Memᴰ.tail m)))
  where
    go : (g : Bool) → first_given (ts ++ us) ≡ cond (eqb (first_given ts) 0) (first_given us) (first_given ts)
        → cond g t.number (first_given (ts ++ us)) ≡ cond (eqb (cond g t.number (first_given ts)) 0) (first_given us) (cond g t.number (first_given ts))
    go true e = sym (rw (ne_eqb t.number 0 (h t (Memᴰ.head refl))))
    go false e = e
