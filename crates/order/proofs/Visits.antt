-- Parts that are taken in one after another, in any turn: one more part, and the parts that are left. Over any way
-- of taking in a list on which the turn does not show. Assumes nothing.
use Prim.Native.Nat.{ℕ, zero, suc, ◌≤◌, ◌<◌}
use native.Mathlib.Nat.{not-suc-le-zero, eq-or-lt_of_le, le_of_suc-le-suc}
use native.Mathlib.Omega.{arith}
use mathlib.Core.Path.{◌≡◌, refl, sym, ap, ◌∙◌}
use mathlib.Core.Logic.{⊎_elim}
use mathlib.Core.Bool.{Bool, true, false, cond}
use mathlib.Core.List.{List, [], ◌++◌}
use Rattle.numbers.proofs.Tests.{chosen}
use Rattle.order.specs.Order.{gather}
use Rattle.order.proofs.Place.{by_test}

module _ {A : Type 0} where
  -- part i, if it has been taken in: if its test, which says that it is still open, fails
  abbrev pub taken : (ℕ → Bool) → (ℕ → List A) → ℕ → List A
  taken t s i = cond (t i) [] (s i)

  -- part i, if it is left
  abbrev pub left : (ℕ → Bool) → (ℕ → List A) → ℕ → List A
  left t s i = cond (t i) (s i) []

module _ {A B : Type 0} (run : List A → B → B)
    (run_nil : (l : B) → run [] l ≡ l)
    (run-append : (es fs : List A) (l : B) → run (es ++ fs) l ≡ run fs (run es l)) where
  run_more : (f : ℕ → List A) (n : ℕ) (l : B) → run (gather f (suc n)) l ≡ run (f n) (run (gather f n) l)
  unfolding gather
  run_more f n l = run-append (gather f n) (f n) l

  -- parts that are equal below n
  run_agree : (f g : ℕ → List A) (n : ℕ) (l : B) → ((i : ℕ) → i < n → f i ≡ g i) → run (gather f n) l ≡ run (gather g n) l
  unfolding gather
  run_agree f g zero l h = refl
  run_agree f g (suc n) l h =
      run_more f n l ∙ rw (run_agree f g n l (λ i p. h i (omega arith)), h n (omega arith)) (sym (run_more g n l))

  module _ (N : ℕ) (s : ℕ → List A)
      (swap : (i j : ℕ) (l : B) → i < N → j < N → (i ≡ j → ⊥) → run (s i) (run (s j) l) ≡ run (s j) (run (s i) l)) where
    -- part j may come after f as well as before it
    abbrev Free : ℕ → List A → Type 0
    Free j f = (l : B) → run (s j) (run f l) ≡ run f (run (s j) l)

    free_nil : (j : ℕ) → Free j []
    free_nil j l = simp run_nil

    free_part : (i j : ℕ) → i < N → j < N → (j ≡ i → ⊥) → Free j (s i)
    free_part i j hi hj ne l = swap j i l hj hi ne

    -- part j, and what is left below it
    run_past : (t : ℕ → Bool) (n j : ℕ) → n ≤ j → j < N → Free j (gather (left t s) n)
    unfolding gather
    run_past t zero j h g l = free_nil j l
    run_past t (suc n) j h g l =
        rw (run_more (left t s) n l, run_more (left t s) n (run (s j) l))
        (chosen (Free j) (t n) (free_part n j (omega arith) g (λ e. omega arith)) (free_nil j) (run (gather (left t s) n) l)
        ∙ ap (run (left t s n)) (run_past t n j (omega arith) g l))

    -- what has been taken in, then what was left, are all parts
    pub run_rest : (t : ℕ → Bool) (n : ℕ) (l : B) → n ≤ N
        → run (gather s n) l ≡ run (gather (left t s) n) (run (gather (taken t s) n) l)
    unfolding gather
    run_rest t zero l h = simp run_nil
    run_rest t (suc n) l h =
        run_more s n l
        ∙ rw (run_more (left t s) n (run (gather (taken t s) (suc n)) l), run_more (taken t s) n l, run_rest t n l (omega arith))
        (by_test (t n) (λ e. simp (e, run_nil)) (λ e. simp (e, run_nil) (run_past t n n (omega arith) (omega arith) _)))

    -- part j taken in after the others is one part more
    pub run_one : (t u : ℕ → Bool) (n j : ℕ) (l : B) → n ≤ N → j < n → t j ≡ true → u j ≡ false
        → ((i : ℕ) → i < n → (i ≡ j → ⊥) → u i ≡ t i)
        → run (gather (taken u s) n) l ≡ run (s j) (run (gather (taken t s) n) l)
    run_one t u zero j l h g a b c = absurd (not-suc-le-zero g)
    run_one t u (suc n) j l h g a b c =
        rw (run_more (taken u s) n l, run_more (taken t s) n l)
        (⊎_elim here (λ p. before p (run_one t u n j l (omega arith) p a b (λ i q r. c i (omega arith) r))) (eq-or-lt_of_le (le_of_suc-le-suc g)))
      where
        here : j ≡ n → run (taken u s n) (run (gather (taken u s) n) l) ≡ run (s j) (run (taken t s n) (run (gather (taken t s) n) l))
        here e =
            rw (← e, a, b, run_nil (run (gather (taken t s) j) l))
            (ap (run (s j)) (run_agree (taken u s) (taken t s) j l (λ i p. rw (c i (omega arith) (λ q. omega arith)))))

        before : j < n → run (gather (taken u s) n) l ≡ run (s j) (run (gather (taken t s) n) l)
            → run (taken u s n) (run (gather (taken u s) n) l) ≡ run (s j) (run (taken t s n) (run (gather (taken t s) n) l))
        before p ih =
            rw (c n (omega arith) (λ q. omega arith), ih)
            (sym (chosen (Free j) (t n) (free_nil j) (free_part n j (omega arith) (omega arith) (λ q. omega arith)) (run (gather (taken t s) n) l)))
