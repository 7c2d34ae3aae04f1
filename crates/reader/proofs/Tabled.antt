-- Over any table of fields: what a chain of readings gives is right exactly when the text is the fields with its numbers, and
-- a text is that of one list of numbers at most. Assumes nothing.
use mathlib.Core.Path.{◌≡◌, refl, sym, ap, ◌∙◌}
use mathlib.Core.List.{List, [], ◌∷◌}
use mathlib.Core.Bool.{true, false≢true}
use Prim.Native.Nat.{ℕ}
use Rattle.std.proofs.Common.{Some, None}
use Rattle.std.proofs.lemmas.Bool.{and_parts}
use Rattle.reader.specs.declared.number.Limits.{Limits}
use Rattle.reader.specs.Fields.{Number, InLimits, Field, field_then, fields_then, AllInLimits}
use Rattle.reader.specs.Scan.{Scan}
use Rattle.reader.specs.Chain.{Taken, Chain, field_in, fields_in, numbers_in, rest_of, is_number, all_numbers}
use Rattle.reader.proofs.OneField.{field_in_lem}

taken_is : (f : Field) (text : List ℕ) (n : Number) (rest : List ℕ) → is_number n ≡ true → Taken f text n rest
    → (text ≡ field_then f n rest) × InLimits f.limits n
taken_is f text (Some n) rest e t = t
taken_is f text None rest e t = absurd (false≢true e)

-- the fields with numbers in their limits are read as those numbers
pub chain_complete : (fs : List Field) (t : List ℕ) (ss : List Scan) (ns : List Number) (rest : List ℕ)
    → Chain fs t ss → AllInLimits fs ns → t ≡ fields_then fs ns rest → (numbers_in ss ≡ ns) × (rest_of t ss ≡ rest)
chain_complete [] t [] [] rest c r e = (refl, e)
chain_complete [] t [] (n ∷ ns) rest c r e = absurd r
chain_complete [] t (s ∷ ss) ns rest c r e = absurd c
chain_complete (f ∷ fs) t [] ns rest c r e = absurd c
chain_complete (f ∷ fs) t (s ∷ ss) [] rest c r e = absurd r
chain_complete (f ∷ fs) t (s ∷ ss) (n ∷ ns) rest c r e =
    let p = c.0.complete n (fields_then fs ns rest) r.0 e in
    let q = chain_complete fs s.rest ss ns rest c.1 r.1 p.1 in
    (rw (p.0, q.0), q.1)

-- what is read as numbers is the fields with those numbers
pub chain_sound : (fs : List Field) (t : List ℕ) (ss : List Scan) → Chain fs t ss → all_numbers (numbers_in ss) ≡ true
    → (t ≡ fields_then fs (numbers_in ss) (rest_of t ss)) × AllInLimits fs (numbers_in ss)
chain_sound [] t [] c a = (refl, tt)
chain_sound [] t (s ∷ ss) c a = absurd c
chain_sound (f ∷ fs) t [] c a = absurd c
chain_sound (f ∷ fs) t (s ∷ ss) c a =
    let b = and_parts (is_number s.number) (all_numbers (numbers_in ss)) a in
    let p = taken_is f t s.number s.rest b.0 c.0.sound in
    let q = chain_sound fs s.rest ss c.1 b.1 in
    (p.0 ∙ ap (field_then f s.number) q.0, (p.1, q.1))

pub chain_in : (fs : List Field) (t : List ℕ) → Chain fs t (fields_in fs t)
chain_in [] t = tt
chain_in (f ∷ fs) t = (field_in_lem f t, chain_in fs (field_in f t).rest)

-- two texts of a table that are one have the same numbers and the same rest
pub fields_once : (fs : List Field) (ns ms : List Number) (r s : List ℕ) → AllInLimits fs ns → AllInLimits fs ms
    → fields_then fs ns r ≡ fields_then fs ms s → (ns ≡ ms) × (r ≡ s)
fields_once fs ns ms r s f g e =
    let t = fields_then fs ns r in
    let one = chain_complete fs t (fields_in fs t) ns r (chain_in fs t) f refl in
    let other = chain_complete fs t (fields_in fs t) ms s (chain_in fs t) g e in
    (sym one.0 ∙ other.0, sym one.1 ∙ other.1)

-- what is in its limits is a number
limits_number : (l : Limits) (n : Number) → InLimits l n → is_number n ≡ true
limits_number l (Some n) w = refl
limits_number l None w = absurd w

pub limits_numbers : (fs : List Field) (ns : List Number) → AllInLimits fs ns → all_numbers ns ≡ true
limits_numbers [] [] w = refl
limits_numbers [] (n ∷ ns) w = absurd w
limits_numbers (f ∷ fs) [] w = absurd w
limits_numbers (f ∷ fs) (n ∷ ns) w = rw (limits_number f.limits n w.0, limits_numbers fs ns w.1)
