-- What is printed of a reply, byte by byte in ASCII. Document 01, '`nearby`'.
use Rattle.std.specs.Prelude.{cond, List, [], ◌∷◌, ◌++◌, ℕ, zero, suc, ◌*◌, leb, length}
use Rattle.decimal.specs.Decimal.{decimal}
use Rattle.measure.specs.declared.HowFar.{HowFar}
use Rattle.record.specs.declared.Record.{Record}

-- `answer=`
abbrev pub answer_key : List ℕ
answer_key = 97 ∷ 110 ∷ 115 ∷ 119 ∷ 101 ∷ 114 ∷ 61 ∷ []

-- `found=`
abbrev pub found_key : List ℕ
found_key = 102 ∷ 111 ∷ 117 ∷ 110 ∷ 100 ∷ 61 ∷ []

-- `bay=`
abbrev pub bay_key : List ℕ
bay_key = 98 ∷ 97 ∷ 121 ∷ 61 ∷ []

-- ` zone=`, with the space before it, and so the two below
abbrev pub zone_key : List ℕ
zone_key = 32 ∷ 122 ∷ 111 ∷ 110 ∷ 101 ∷ 61 ∷ []

-- ` dsq=`
abbrev pub dsq_key : List ℕ
dsq_key = 32 ∷ 100 ∷ 115 ∷ 113 ∷ 61 ∷ []

-- ` mm=`
abbrev pub mm_key : List ℕ
mm_key = 32 ∷ 109 ∷ 109 ∷ 61 ∷ []

abbrev pub newline : List ℕ
newline = 10 ∷ []

-- the largest of n, n - 1, .., 0 whose square is at most d
unfoldable pub root_below : ℕ → ℕ → ℕ
root_below zero d = 0
root_below (suc n) d = cond (leb (suc n * suc n) d) (suc n) (root_below n d)

-- the plain distance of d, as a function
unfoldable pub root_of : ℕ → ℕ
root_of d = root_below d d

-- a key and a number
abbrev pub field_of : List ℕ → ℕ → List ℕ
field_of key n = key ++ decimal n

-- a line of one field
abbrev pub head_line : List ℕ → ℕ → List ℕ
head_line key n = field_of key n ++ newline

-- how far a bay is: its squared distance and its plain distance
abbrev pub far_fields : HowFar → List ℕ
far_fields far = field_of dsq_key far.0 ++ field_of mm_key (root_of far.0)

-- the line of a bay: its number, its zone, and how far it is
unfoldable pub record_line : Record → List ℕ
record_line r = field_of bay_key r.bay ++ field_of zone_key r.zone ++ far_fields r.far ++ newline

unfoldable pub record_lines : List Record → List ℕ
record_lines [] = []
record_lines (r ∷ rs) = record_line r ++ record_lines rs

-- the whole output: the answer's number, how many bays were found, and a line for each
unfoldable pub printed : ℕ → List Record → List ℕ
printed number rs = head_line answer_key number ++ head_line found_key (length rs) ++ record_lines rs
