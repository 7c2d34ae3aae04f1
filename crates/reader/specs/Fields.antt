-- A text made of fields: each is a key, a number in decimal, and the byte that ends it. Document 01, '`nearby`'.
use Rattle.std.specs.Prelude.{List, [], ◌∷◌, ◌++◌, Bool, true, false, cond, ℕ, ◌≤◌, ◌<◌, Option, Some, None}
use Rattle.decimal.specs.Decimal.{decimal}
use Rattle.reader.specs.declared.number.Signed.{Signed}
use Rattle.reader.specs.declared.number.Limits.{Limits}
use Rattle.reader.specs.declared.number.Stop.{Stop}
use Rattle.reader.specs.declared.number.Stop.TheVariants.{Newline, Space}

-- what a field holds: a number, as whether it has a minus and its size, or nothing of use
abbrev pub Number : Type 0
Number = Option Signed

abbrev pub number : Bool → ℕ → Number
number minus n = Some (record { minus = minus; size = n })

-- the only accepted text of a number; none for what is wrong
abbrev pub numeral : Number → List ℕ
numeral (Some n) = cond n.minus (45 ∷ decimal n.size) (decimal n.size)
numeral None = []

-- a size behind a minus, or with none; minus zero is no number
abbrev pub SizeIn : Limits → Bool → ℕ → Type 0
SizeIn l true n = (0 < n) × (n ≤ l.least)
SizeIn l false n = n ≤ l.most

-- a number from -least to most
abbrev pub InLimits : Limits → Number → Type 0
InLimits l (Some n) = SizeIn l n.minus n.size
InLimits l None = ⊥

-- what ends a field
abbrev pub stop_byte : Stop → ℕ
stop_byte Newline = 10
stop_byte Space = 32

-- a field: its key, the limits of its number, and what ends it
pub record Field : Type 0 where
  pub key : List ℕ
  pub limits : Limits
  pub stop : Stop

-- a field with its number, and the rest behind it
unfoldable pub field_then : Field → Number → List ℕ → List ℕ
field_then f n rest = f.key ++ (numeral n ++ (stop_byte f.stop ∷ rest))

-- a table of fields with their numbers, one after another, and the rest behind them
abbrev pub fields_then : List Field → List Number → List ℕ → List ℕ
fields_then [] ns rest = rest
fields_then (f ∷ fs) [] rest = rest
fields_then (f ∷ fs) (n ∷ ns) rest = field_then f n (fields_then fs ns rest)

-- each number in its field's limits, and as many as there are fields
abbrev pub AllInLimits : List Field → List Number → Type 0
AllInLimits [] [] = Unit
AllInLimits [] (n ∷ ns) = ⊥
AllInLimits (f ∷ fs) [] = ⊥
AllInLimits (f ∷ fs) (n ∷ ns) = InLimits f.limits n × AllInLimits fs ns
