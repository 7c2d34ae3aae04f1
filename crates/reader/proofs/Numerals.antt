-- `scan` reads a number's own text and nothing else. Assumes nothing.
use mathlib.Core.Path.{◌≡◌, refl, ap, ◌∙◌}
use mathlib.Core.List.{List, [], ◌∷◌, ◌++◌, append_assoc}
use mathlib.Core.Bool.{Bool, true, false, cond, ◌&&◌}
use Prim.Native.Nat.{ℕ, zero, suc, ◌+◌, ◌*◌, ◌-◌, ◌/◌, ◌%◌, ◌≤◌, ◌<◌}
use native.Mathlib.Omega.{arith}
use native.Mathlib.Nat.{pos_of_ne-zero}
use lib.Seq.{append_snoc}
use lib.Dec.{leb, eqb, ltb}
use borrow.Author.Tests.{le-leb, leb-true, ne_eqb, eqb-true, eqb-false, ltb-true, ltb-false}
use Rattle.std.proofs.Common.{Option, Some, None, Continue, Break}
use Rattle.std.proofs.lemmas.Bool.{cond_both}
use Rattle.std.proofs.lemmas.Bool.{and_parts}
use Rattle.decimal.specs.Decimal.{decimal}
use Rattle.decimal.proofs.Laws.{decimal_one, decimal_more, decimal_grow}
use Rattle.reader.specs.declared.number.Limits.{Limits}
use Rattle.reader.specs.declared.number.Stop.{Stop}
use Rattle.reader.specs.declared.number.Stop.TheVariants.{Newline, Space}
use Rattle.reader.specs.declared.number.State.{State}
use Rattle.reader.specs.declared.number.State.TheVariants.{Empty, Sign, Digits}
use Rattle.reader.specs.Fields.{Number, number, numeral, SizeIn, InLimits, stop_byte}
use Rattle.reader.specs.Scan.{limit_of, digits, grow_of, digit_of, minus_of, finish_of, stop_of, Step, on, end, byte_of, follow, scan}

-- ---- a number's own text is read as that number

abbrev start : Bool → State
start true = Sign
start false = Empty

module _ (l : Limits) (stop : Stop) where
  byte_digit : (s : State) (d : ℕ) → d < 10 → byte_of l stop s (48 + d) ≡ on (digit_of l s d)
  unfolding byte_of
  byte_digit s d h =
      let z : (48 + d) - 48 ≡ d = omega arith in
      simp (le-leb 48 (48 + d) (omega arith), le-leb (48 + d) 57 (omega arith), z)

  digit_first : (minus : Bool) (d : ℕ) → SizeIn l minus d → digit_of l (start minus) d ≡ Some (digits minus d)
  unfolding digit_of grow_of
  digit_first true d w =
      let z : 10 * 0 + d ≡ d = omega arith in
      rw (ne_eqb d 0 (λ e. omega arith), z, le-leb d l.least w.1)
  digit_first false d w =
      let z : 10 * 0 + d ≡ d = omega arith in
      rw (z, le-leb d l.most w)

  digit_next : (minus : Bool) (m d : ℕ) → 0 < m → 10 * m + d ≤ limit_of minus l
      → digit_of l (digits minus m) d ≡ Some (digits minus (10 * m + d))
  unfolding digit_of grow_of
  digit_next minus m d p h = rw (ne_eqb m 0 (λ e. omega arith), le-leb (10 * m + d) (limit_of minus l) h)

  shorter : (minus : Bool) (n : ℕ) → 10 ≤ n → SizeIn l minus n → SizeIn l minus (n / 10)
  shorter true n h w = (omega arith, omega (arith, w.1))
  shorter false n h w = omega arith

  at_most : (minus : Bool) (n : ℕ) → SizeIn l minus n → n ≤ limit_of minus l
  at_most true n w = w.1
  at_most false n w = w

  reads_by : (n : ℕ) (minus small : Bool) (t : List ℕ) → ltb n 10 ≡ small → SizeIn l minus n
      → ((m : ℕ) (r : List ℕ) → m < n → SizeIn l minus m → scan l stop (start minus) (decimal m ++ r) ≡ scan l stop (digits minus m) r)
      → scan l stop (start minus) (decimal n ++ t) ≡ scan l stop (digits minus n) t
  unfolding scan
  reads_by n minus true t e w ih =
      let one : n < 10 = ltb-true n 10 e in
      rw (decimal_one n one, byte_digit (start minus) n one, digit_first minus n w)
  reads_by n minus false t e w ih =
      let more : 10 ≤ n = ltb-false n 10 e in
      let z : 10 * (n / 10) + n % 10 ≡ n = omega arith in
      let b = at_most minus n w in
      rw (decimal_more n more, append_assoc) (ih (n / 10) ((48 + n % 10) ∷ t) (omega arith) (shorter minus n more w)
      ∙ rw (byte_digit (digits minus (n / 10)) (n % 10) (omega arith), digit_next minus (n / 10) (n % 10) (omega arith) (omega arith), z))

  reads_up : (f n : ℕ) (minus : Bool) (t : List ℕ) → n < f → SizeIn l minus n
      → scan l stop (start minus) (decimal n ++ t) ≡ scan l stop (digits minus n) t
  reads_up zero n minus t h w = absurd (omega arith)
  reads_up (suc f) n minus t h w = reads_by n minus (ltb n 10) t refl w (λ m r k v. reads_up f m minus r (omega arith) v)

  byte_stop : (s : State) → byte_of l stop s (stop_byte stop) ≡ end (finish_of s)
  unfolding byte_of
  byte_stop s = by stop
    where
      by : (p : Stop) → byte_of l p s (stop_byte p) ≡ end (finish_of s)
      by Newline = refl
      by Space = refl

  stop_scan : (minus : Bool) (n : ℕ) (t : List ℕ)
      → scan l stop (digits minus n) (stop_byte stop ∷ t) ≡ record { number = number minus n; rest = t }
  unfolding scan
  stop_scan minus n t = rw (byte_stop (digits minus n))

  own_read : (minus : Bool) (n : ℕ) (t : List ℕ) → SizeIn l minus n
      → scan l stop Empty (numeral (number minus n) ++ (stop_byte stop ∷ t)) ≡ record { number = number minus n; rest = t }
  unfolding scan byte_of
  own_read true n t w = reads_up (suc n) n true (stop_byte stop ∷ t) (omega arith) w ∙ stop_scan true n t
  own_read false n t w = reads_up (suc n) n false (stop_byte stop ∷ t) (omega arith) w ∙ stop_scan false n t

  pub scan_complete : (n : Number) (t : List ℕ) → InLimits l n
      → scan l stop Empty (numeral n ++ (stop_byte stop ∷ t)) ≡ record { number = n; rest = t }
  scan_complete (Some n) t w = own_read n.minus n.size t w
  scan_complete None t w = absurd w

  -- ---- what is read as a number is that number's own text

  abbrev shown : State → List ℕ
  shown Empty = []
  shown Sign = 45 ∷ []
  shown (Digits n) = numeral (Some n)

  abbrev Valid : State → Type 0
  Valid Empty = Unit
  Valid Sign = Unit
  Valid (Digits n) = InLimits l (Some n)

  abbrev Goes : List ℕ → ℕ → Option State → Type 0
  Goes w b None = Unit
  Goes w b (Some s) = Valid s × (shown s ≡ w ++ (b ∷ []))

  abbrev Ends : List ℕ → ℕ → Number → Type 0
  Ends w b None = Unit
  Ends w b (Some n) = (w ≡ numeral (Some n)) × (b ≡ stop_byte stop) × InLimits l (Some n)

  abbrev Next : List ℕ → ℕ → Step → Type 0
  Next w b None = Unit
  Next w b (Some (Continue s)) = Goes w b (Some s)
  Next w b (Some (Break n)) = Ends w b (Some n)

  goes_next : (w : List ℕ) (b : ℕ) (s : Option State) → Goes w b s → Next w b (on s)
  goes_next w b None g = tt
  goes_next w b (Some s) g = g

  ends_next : (w : List ℕ) (b : ℕ) (n : Number) → Ends w b n → Next w b (end n)
  ends_next w b None g = tt
  ends_next w b (Some n) g = g

  grow_goes : (w : List ℕ) (minus : Bool) (n d limit : ℕ)
      → (10 * n + d ≤ limit → SizeIn l minus (10 * n + d) × (numeral (number minus (10 * n + d)) ≡ w ++ ((48 + d) ∷ [])))
      → Goes w (48 + d) (grow_of minus n d limit)
  unfolding grow_of
  grow_goes w minus n d limit f =
      cond_both (leb (10 * n + d) limit) (Some (digits minus (10 * n + d))) None (Goes w (48 + d))
      (λ e. f (leb-true (10 * n + d) limit e)) (λ e. tt)

  longer : (minus : Bool) (n d : ℕ) → 0 < n → d < 10
      → numeral (number minus (10 * n + d)) ≡ numeral (number minus n) ++ ((48 + d) ∷ [])
  longer true n d p h = ap (λ (t : List ℕ). 45 ∷ t) (decimal_grow n d p h)
  longer false n d p h = decimal_grow n d p h

  within : (minus : Bool) (n d : ℕ) → 0 < n → 10 * n + d ≤ limit_of minus l → SizeIn l minus (10 * n + d)
  within true n d p h = (omega arith, h)
  within false n d p h = h

  digit_goes : (s : State) (d : ℕ) → d < 10 → Valid s → Goes (shown s) (48 + d) (digit_of l s d)
  unfolding digit_of
  digit_goes Empty d h v =
      let z : 10 * 0 + d ≡ d = omega arith in
      grow_goes [] false 0 d l.most (λ k. (k, rw z (decimal_one d h)))
  digit_goes Sign d h v =
      let z : 10 * 0 + d ≡ d = omega arith in
      cond_both (eqb d 0) None (grow_of true 0 d l.least) (Goes (45 ∷ []) (48 + d)) (λ e. tt)
      (λ e. grow_goes (45 ∷ []) true 0 d l.least
      (λ k. ((omega (arith, pos_of_ne-zero (eqb-false d 0 e)), k), rw z (ap (λ (t : List ℕ). 45 ∷ t) (decimal_one d h)))))
  digit_goes (Digits n) d h v =
      cond_both (eqb n.size 0) None (grow_of n.minus n.size d (limit_of n.minus l)) (Goes (numeral (Some n)) (48 + d)) (λ e. tt)
      (λ e. let p : 0 < n.size = pos_of_ne-zero (eqb-false n.size 0 e) in
      grow_goes (numeral (Some n)) n.minus n.size d (limit_of n.minus l) (λ k. (within n.minus n.size d p k, longer n.minus n.size d p h)))

  minus_goes : (s : State) → Valid s → Goes (shown s) 45 (minus_of s)
  minus_goes Empty v = (tt, refl)
  minus_goes Sign v = tt
  minus_goes (Digits n) v = tt

  end_sound : (s : State) → Valid s → Ends (shown s) (stop_byte stop) (finish_of s)
  end_sound Empty v = tt
  end_sound Sign v = tt
  end_sound (Digits n) v = (refl, refl, v)

  byte_sound : (s : State) (b : ℕ) → Valid s → Next (shown s) b (byte_of l stop s b)
  unfolding byte_of
  byte_sound s b v =
      cond_both (leb 48 b && leb b 57) (on (digit_of l s (b - 48))) (cond (eqb b 45) (on (minus_of s)) (end (stop_of stop s b))) (Next (shown s) b)
      (λ e. let t = and_parts (leb 48 b) (leb b 57) e in
      let low : 48 ≤ b = leb-true 48 b t.0 in
      let high : b ≤ 57 = leb-true b 57 t.1 in
      let z : 48 + (b - 48) ≡ b = omega arith in
      goes_next (shown s) b (digit_of l s (b - 48)) (rw z at (digit_goes s (b - 48) (omega arith) v)))
      (λ e. cond_both (eqb b 45) (on (minus_of s)) (end (stop_of stop s b)) (Next (shown s) b)
      (λ f. goes_next (shown s) b (minus_of s) (rw (eqb-true b 45 f) (minus_goes s v)))
      (λ f. ends_next (shown s) b (stop_of stop s b)
      (cond_both (eqb b (stop_byte stop)) (finish_of s) None (Ends (shown s) b)
      (λ g. rw (eqb-true b (stop_byte stop) g) (end_sound s v)) (λ g. tt))))

  -- w is a number's own text, the byte that ends it, and the rest
  abbrev pub Sound : List ℕ → Number → List ℕ → Type 0
  Sound w None rest = Unit
  Sound w (Some n) rest = (w ≡ numeral (Some n) ++ (stop_byte stop ∷ rest)) × InLimits l (Some n)

  followed : (w t : List ℕ) (b : ℕ) (p : Step) → Next w b p
      → ((s : State) → Valid s → Sound (shown s ++ t) (scan l stop s t).number (scan l stop s t).rest)
      → let r = follow p (λ (n : State). scan l stop n t) t in Sound (w ++ (b ∷ t)) r.number r.rest
  followed w t b None e ih = tt
  followed w t b (Some (Continue s)) e ih = rw (← append_snoc w b t, ← e.1) (ih s e.0)
  followed w t b (Some (Break n)) e ih = (rw (e.0, e.1), e.2)

  pub scan_sound : (t : List ℕ) (s : State) → Valid s
      → Sound (shown s ++ t) (scan l stop s t).number (scan l stop s t).rest
  unfolding scan
  scan_sound [] s v = tt
  scan_sound (b ∷ t) s v = followed (shown s) t b (byte_of l stop s b) (byte_sound s b v) (λ n u. scan_sound t n u)
