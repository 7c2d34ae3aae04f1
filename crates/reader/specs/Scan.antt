-- For the proofs of the code: how a number is read, byte by byte.
use Rattle.std.specs.Prelude.{◌≡◌, List, [], ◌∷◌, Bool, true, false, cond, ◌&&◌, ℕ, ◌+◌, ◌*◌, ◌-◌, eqb, leb, Option, Some, None, option_map, MatchOption}
use denote.Ref.{Bor}
use Rattle.std.specs.declared.ops.ControlFlow.{ControlFlow}
use Rattle.std.specs.declared.ops.ControlFlow.TheVariants.{Continue, Break}
use Rattle.reader.specs.declared.number.Signed.{Signed}
use Rattle.reader.specs.declared.number.Limits.{Limits}
use Rattle.reader.specs.declared.number.Stop.{Stop}
use Rattle.reader.specs.declared.number.State.{State}
use Rattle.reader.specs.declared.number.State.TheVariants.{Empty, Sign, Digits}
use Rattle.reader.specs.Fields.{Number, stop_byte}

-- how large a number may be, by its sign
abbrev pub limit_of : Bool → Limits → ℕ
limit_of minus l = cond minus l.least l.most

abbrev pub digits : Bool → ℕ → State
digits minus n = Digits (record { minus = minus; size = n })

-- one digit more
unfoldable pub grow_of : Bool → ℕ → ℕ → ℕ → Option State
grow_of minus n d limit = cond (leb (10 * n + d) limit) (Some (digits minus (10 * n + d))) None

unfoldable pub digit_of : Limits → State → ℕ → Option State
digit_of l Empty d = grow_of false 0 d l.most
digit_of l Sign d = cond (eqb d 0) None (grow_of true 0 d l.least)
digit_of l (Digits n) d = cond (eqb n.size 0) None (grow_of n.minus n.size d (limit_of n.minus l))

abbrev pub minus_of : State → Option State
minus_of Empty = Some Sign
minus_of Sign = None
minus_of (Digits n) = None

abbrev pub finish_of : State → Number
finish_of Empty = None
finish_of Sign = None
finish_of (Digits n) = Some n

-- a byte that ends one field or another: it ends this one if it is this one's
abbrev pub stop_of : Stop → State → ℕ → Number
stop_of stop s b = cond (eqb b (stop_byte stop)) (finish_of s) None

-- what a byte leads to: it goes on, or ends the number, or is wrong
abbrev pub Step : Type 0
Step = Option (ControlFlow Signed State)

abbrev pub on : Option State → Step
on s = option_map Continue s

abbrev pub end : Number → Step
end n = option_map Break n

-- where a byte leads: a digit, a minus, what may end a field, and the rest
unfoldable pub byte_of : Limits → Stop → State → ℕ → Step
byte_of l stop s b = cond (leb 48 b && leb b 57) (on (digit_of l s (b - 48))) (cond (eqb b 45) (on (minus_of s)) (end (stop_of stop s b)))

-- a number and what stands after the byte that ends it
pub record Scan : Type 0 where
  pub number : Number
  pub rest : List ℕ

abbrev pub follow : Step → (State → Scan) → List ℕ → Scan
follow (Some (Continue s)) f t = f s
follow (Some (Break n)) f t = record { number = Some n; rest = t }
follow None f t = record { number = None; rest = t }

-- a text that ends before its field does holds no number
unfoldable pub scan : Limits → Stop → State → List ℕ → Scan
scan l stop s [] = record { number = None; rest = [] }
scan l stop s (b ∷ t) = follow (byte_of l stop s b) (λ (n : State). scan l stop n t) t

-- what the code hands back is that number, if there is one, and the rest behind it
abbrev pub Reads : Scan → Option (Signed × Bor (List ℕ)) → Type 0
Reads s r = MatchOption r (s.number ≡ None) (λ p. (s.number ≡ Some p.0) × (s.rest ≡ p.1.now))
