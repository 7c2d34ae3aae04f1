-- A question's own text, and what reading a text gives. Document 01, '`nearby`'. What a reader has to believe is the table
-- of fields, `question_text` and `ReadAs`: `question_in` reads every text as `ReadAs` says, and no other reading does.
use Rattle.std.specs.Prelude.{◌≡◌, List, [], ◌∷◌, true, false, cond, ◌&&◌, ℕ, suc, ◌-◌, ◌^◌, ℤ, pos, negsuc, get_or, Option, Some, None, Bool}
use Rattle.question.specs.declared.Question.{Question}
use Rattle.reader.specs.declared.number.Limits.{Limits}
use Rattle.reader.specs.declared.number.Stop.TheVariants.{Newline}
use Rattle.reader.specs.Fields.{Number, number, Field, fields_then, AllInLimits}
use Rattle.reader.specs.Chain.{fields_in, numbers_in, rest_of, all_numbers, is_nil}

-- the keys, in ASCII: x= y= k= badge= afterdsq= afterbay=
abbrev pub x_key : List ℕ
x_key = 120 ∷ 61 ∷ []

abbrev pub y_key : List ℕ
y_key = 121 ∷ 61 ∷ []

abbrev pub k_key : List ℕ
k_key = 107 ∷ 61 ∷ []

abbrev pub badge_key : List ℕ
badge_key = 98 ∷ 97 ∷ 100 ∷ 103 ∷ 101 ∷ 61 ∷ []

abbrev pub afterdsq_key : List ℕ
afterdsq_key = 97 ∷ 102 ∷ 116 ∷ 101 ∷ 114 ∷ 100 ∷ 115 ∷ 113 ∷ 61 ∷ []

abbrev pub afterbay_key : List ℕ
afterbay_key = 97 ∷ 102 ∷ 116 ∷ 101 ∷ 114 ∷ 98 ∷ 97 ∷ 121 ∷ 61 ∷ []

-- how large a number of each type may be, and how large behind a minus: an unsigned one has no minus
abbrev pub i32_limits : Limits
i32_limits = record { most = 2 ^ 31 - 1; least = 2 ^ 31 }

abbrev pub u32_limits : Limits
u32_limits = record { most = 2 ^ 32 - 1; least = 0 }

abbrev pub u64_limits : Limits
u64_limits = record { most = 2 ^ 64 - 1; least = 0 }

abbrev pub line : List ℕ → Limits → Field
line key limits = record { key = key; limits = limits; stop = Newline }

-- the lines of a question
abbrev pub question_fields : List Field
question_fields =
    line x_key i32_limits
    ∷ line y_key i32_limits
    ∷ line k_key u32_limits
    ∷ line badge_key u32_limits
    ∷ line afterdsq_key u64_limits
    ∷ line afterbay_key u32_limits
    ∷ []

-- a whole number, as its sign and size; and an unsigned one
abbrev pub signed_number : ℤ → Number
signed_number (pos n) = number false n
signed_number (negsuc n) = number true (suc n)

abbrev pub plain_number : ℕ → Number
plain_number n = number false n

-- the numbers of a question, in the order of its lines
abbrev pub question_numbers : Question → List Number
question_numbers q =
    signed_number q.from.x
    ∷ signed_number q.from.y
    ∷ plain_number q.k
    ∷ plain_number q.badge.0
    ∷ plain_number q.mark.far.0
    ∷ plain_number q.mark.bay
    ∷ []

-- the only text of a question
unfoldable pub question_text : Question → List ℕ
question_text q = fields_then question_fields (question_numbers q) []

-- every number of the question is one that may be written
abbrev pub Fitting : Question → Type 0
Fitting q = AllInLimits question_fields (question_numbers q)

-- a text is read as a question exactly when it is that question's own text, and is bad when it is the text of none
abbrev pub ReadAs : List ℕ → Option Question → Type 0
ReadAs text (Some q) = Fitting q × (text ≡ question_text q)
ReadAs text None = (q : Question) → Fitting q → text ≡ question_text q → ⊥

-- numbers as values of the question's types, and the question of six numbers
abbrev pub whole : Bool → ℕ → ℤ
whole true n = negsuc (n - 1)
whole false n = pos n

abbrev pub whole_of : Number → ℤ
whole_of (Some n) = whole n.minus n.size
whole_of None = pos 0

abbrev pub size_of : Number → ℕ
size_of (Some n) = n.size
size_of None = 0

abbrev pub question_of : List Number → Question
question_of ns =
    record {
      from = record { x = whole_of (get_or ns 0 None); y = whole_of (get_or ns 1 None) };
      k = size_of (get_or ns 2 None);
      badge = record { 0 = size_of (get_or ns 3 None) };
      mark = record { far = record { 0 = size_of (get_or ns 4 None) }; bay = size_of (get_or ns 5 None) };
    }

-- what reading a text gives: each field is read where the one before it ends, and nothing may come after the last
unfoldable pub question_in : List ℕ → Option Question
question_in t =
    let read = fields_in question_fields t in
    cond (all_numbers (numbers_in read) && is_nil (rest_of t read)) (Some (question_of (numbers_in read))) None
