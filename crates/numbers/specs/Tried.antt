-- Numbered tests that are tried one after another: the number of the first that is given, and what each is given for.
use Rattle.std.specs.Prelude.{◌≡◌, Bool, cond, List, [], ◌∷◌, ◌⊎◌, ℕ}
use Rattle.numbers.specs.Exactly.{Exactly}

-- a test, with the number that it gives
pub record Test : Type 0 where
  pub number : ℕ
  pub given : Bool

abbrev pub test : ℕ → Bool → Test
test n t = record { number = n; given = t }

-- the number of the first that is given; 0 if none is
unfoldable pub first_given : List Test → ℕ
first_given [] = 0
first_given (t ∷ ts) = cond t.given t.number (first_given ts)

-- what a test is given for, in words: a row of a table
pub record Row : Type 1 where
  pub number : ℕ
  pub when : Type 0

abbrev pub row : ℕ → Type 0 → Row
row n P = record { number = n; when = P }

-- n is the number of the first row that holds; 0 if none does
unfoldable pub Tried : List Row → ℕ → Type 0
Tried [] n = n ≡ 0
Tried (r ∷ rs) n = (r.when × (n ≡ r.number)) ⊎ ((r.when → ⊥) × Tried rs n)

-- the tests are those of the rows, one by one
unfoldable pub Agree : List Test → List Row → Type 0
Agree [] [] = Unit {0}
Agree [] (r ∷ rs) = ⊥
Agree (t ∷ ts) [] = ⊥
Agree (t ∷ ts) (r ∷ rs) = (t.number ≡ r.number) × Exactly t.given r.when × Agree ts rs
