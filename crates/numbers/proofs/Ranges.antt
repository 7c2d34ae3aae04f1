-- What std's methods over a range of numbers find, as tests over the numbers below a bound. Assumes nothing.
use Rattle.std.proofs.Common.{◌≡◌, refl, sym, ap, subst, ◌∙◌, Bool, true, false, ◌&&◌, ℕ, zero, suc, ◌-◌, ◌<◌, List, [], ◌∷◌, ◌++◌, Option, length, get_or, arith}
use Rattle.std.specs.Bool.{MatchBool}
use Rattle.std.specs.Fn.{Called}
use Rattle.std.specs.Iterator.{YieldsThen, Drains}
use Rattle.std.specs.List.{fold, range_with_len, FoldsTo, AllWithin, HoldsAt}
use Rattle.std.specs.Option.{MatchOption}
use Rattle.std.proofs.iter.Yields.{nat_range_steps}
use Rattle.std.proofs.iter.Rest.{range_with_len_last}
use Rattle.std.proofs.lemmas.Fn.{fold_over}
use Rattle.std.proofs.lemmas.List.Sums.{fold-append}
use Rattle.std.proofs.lemmas.Iterator.{cases_from_all, YieldsList-from_range}
use Rattle.std.proofs.lemmas.List.FromFn.{length-range_with_len, get_or-range_with_len}
use Rattle.std.specs.declared.ops.Range.{Range}
use mathlib.Core.Bool.{true≢false}
use denote.Param.Members.{Mut}
use Rattle.numbers.specs.Below.{all_below}
use Rattle.numbers.proofs.Below.{all_sound, all_complete}

-- `all` over the numbers below n, by a test that computes p
pub all_ran : {F : Type 0} {g : Mut F (ℕ × Unit {0}) Bool} {s u : Range ℕ} {f : F} {r : Bool} (p : ℕ → Bool) (n : ℕ)
    → (xs : List ℕ) × (o : Option ℕ) × (j : F) × YieldsThen nat_range_steps s xs o u × FoldsTo (λ b x q. Called g b (x, tt) true q) f xs j × MatchOption o (r ≡ true) (λ x. (r ≡ false) × ((h : F) × Called g j (x, tt) false h))
    → s ≡ record { start = 0; end = n }
    → ((x : ℕ) (t : Bool) (q : F) → Called g f (x, tt) t q → (q ≡ f) × (t ≡ p x))
    → r ≡ all_below p n
all_ran {f = f} {r = r} p n ran from one =
    by r (cases_from_all _ f r (λ x. p x ≡ true) (λ x. p x ≡ false) ran (YieldsList-from_range 0 n n from (omega arith)) (λ x q k. let o = one x true q k in (o.0, sym o.1)) (λ x q k. sym (one x false q k).1))
  where
    xs : List ℕ
    xs = range_with_len 0 n

    long : length xs ≡ n
    long = length-range_with_len 0 n

    at : (k : ℕ) → k < n → get_or xs k 0 ≡ k
    at k l = omega (arith, get_or-range_with_len 0 n k 0 l)

    unless : (t : Bool) → (t ≡ true → ⊥) → false ≡ t
    unless true h = absurd (h refl)
    unless false h = refl

    by : (t : Bool) → MatchBool t (AllWithin (λ x. p x ≡ true) xs 0 (length xs)) ((k : ℕ) × (k < length xs) × HoldsAt (λ x. p x ≡ false) xs k) → t ≡ all_below p n
    by true h = sym (all_complete p n (λ k l. subst (λ x. p x ≡ true) (at k l) (h k 0 (omega arith) (omega (arith, long)))))
    by false h =
        let l : h.0 < n = omega (arith, h.1, long) in
        let no : p h.0 ≡ false = subst (λ x. p x ≡ false) (at h.0 l) (h.2 0) in
        unless (all_below p n) (λ e. true≢false (sym (all_sound p n e h.0 l) ∙ no))

-- a fold whose turn is `ok & test`: it looks at all of them, and branches at none
abbrev and_so : (ℕ → Bool) → Bool → ℕ → Bool
and_so p ok i = ok && p i

folded : (p : ℕ → Bool) (n : ℕ) → fold (and_so p) true (range_with_len 0 n) ≡ all_below p n
folded p zero = refl
folded p (suc n) =
    let all : suc n - 0 ≡ suc n = omega arith in
    let less : suc n - 1 ≡ n = omega arith in
    let rest : n - 0 ≡ n = omega arith in
    let last : range_with_len 0 (suc n) ≡ range_with_len 0 n ++ n ∷ [] = rw (all, less, rest) at (range_with_len_last 0 (suc n) (omega arith)) in
    ap (fold (and_so p) true) last ∙ fold-append (and_so p) true (range_with_len 0 n) (n ∷ []) ∙ ap (λ t. t && p n) (folded p n)

pub fold_ran : {F : Type 0} {g : Mut F (Bool × (ℕ × Unit {0})) Bool} {s : Range ℕ} (p : ℕ → Bool) (n : ℕ) (f : F) (r : Bool)
    → (xs : List ℕ) × (f' : F) × Drains nat_range_steps s xs × FoldsTo {P = F × Bool} (λ a x b. Called g a.0 (a.1, (x, tt)) b.1 b.0) (f, true) xs (f', r)
    → s ≡ record { start = 0; end = n }
    → ((ok : Bool) (x : ℕ) (b : Bool) (f' : F) → Called g f (ok, (x, tt)) b f' → (b ≡ (ok && p x)) × (f' ≡ f))
    → r ≡ all_below p n
fold_ran {g = g} {s = s} p n f r ran from one =
    fold_over nat_range_steps (λ (x : ℕ). x) g (λ (ys : List ℕ) (a : Bool). a ≡ fold (and_so p) true ys) f
    (λ ys a x b f' j k. let more = fold-append (and_so p) true ys (x ∷ []) in let o = one a x b f' k in (o.0 ∙ ap (λ t. t && p x) j ∙ sym more, o.1))
    s (range_with_len 0 n) _ r (YieldsList-from_range 0 n n from (omega arith)).runs refl ran
    ∙ folded p n
