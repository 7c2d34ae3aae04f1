-- Texts that are questions and texts that are none, settled from the definitions. Assumes nothing.
use mathlib.Core.Path.{◌≡◌, refl}
use mathlib.Core.List.{List, [], ◌∷◌}
use Prim.Native.Nat.{ℕ}
use lib.IntN.{pos}
use lib.ListN.{take}
use Rattle.std.proofs.Common.{Some, None}
use Rattle.reader.specs.Scan.{scan, byte_of, digit_of, grow_of}
use Rattle.reader.specs.Chain.{field_in}
use Rattle.reader.specs.QuestionText.{question_in}

-- document 01's example: y=2 k=3 badge=8 afterdsq=0 afterbay=0, and x=6 before them
abbrev behind : List ℕ
behind =
    121 ∷ 61 ∷ 50 ∷ 10
    ∷ 107 ∷ 61 ∷ 51 ∷ 10
    ∷ 98 ∷ 97 ∷ 100 ∷ 103 ∷ 101 ∷ 61 ∷ 56 ∷ 10
    ∷ 97 ∷ 102 ∷ 116 ∷ 101 ∷ 114 ∷ 100 ∷ 115 ∷ 113 ∷ 61 ∷ 48 ∷ 10
    ∷ 97 ∷ 102 ∷ 116 ∷ 101 ∷ 114 ∷ 98 ∷ 97 ∷ 121 ∷ 61 ∷ 48 ∷ 10
    ∷ []

abbrev example : List ℕ
example = 120 ∷ 61 ∷ 54 ∷ 10 ∷ behind

pub example_read : question_in example
    ≡ Some (record { from = record { x = pos 6; y = pos 2 }; k = 3; badge = record { 0 = 8 }; mark = record { far = record { 0 = 0 }; bay = 0 } })
unfolding question_in field_in scan byte_of digit_of grow_of
example_read = refl

-- x=-0
pub minus_zero_bad : question_in (120 ∷ 61 ∷ 45 ∷ 48 ∷ 10 ∷ behind) ≡ None
unfolding question_in field_in scan byte_of digit_of grow_of
minus_zero_bad = refl

-- x=06
pub leading_zero_bad : question_in (120 ∷ 61 ∷ 48 ∷ 54 ∷ 10 ∷ behind) ≡ None
unfolding question_in field_in scan byte_of digit_of grow_of
leading_zero_bad = refl

-- without its last newline
pub newline_missing_bad : question_in (take 41 example) ≡ None
unfolding question_in field_in scan byte_of digit_of grow_of
newline_missing_bad = refl
