-- What a search makes of a best list: the first k of it and of those bays below that the question wants. The turn in
-- which they come does not show.
use Rattle.std.specs.Prelude.{◌≡◌, Bool, ◌&&◌, ◌||◌, List, map, ℕ, ltb}
use Rattle.floor.specs.View.{View, filled}
use Rattle.order.specs.Order.{keep_all, only}
use Rattle.question.specs.declared.Question.{Question}
use Rattle.nearest.specs.declared.best.Best.{Best}
use Rattle.nearest.specs.Shown.{page}
use Rattle.nearest.specs.Asked.{wanted_by}
use Rattle.nearest.specs.Best.{key_of, sooner, keys_of, Carried}

-- the list b has become r: the first k of it and of the keys
pub record Kept (v : View) (k : ℕ) (keys : List ℕ) (b r : Best) : Type 0 where
  pub carried : Carried v k r
  pub is : keys_of r ≡ keep_all (sooner v) k keys (keys_of b)

-- the keys of those slots that the question wants
unfoldable pub wanted_keys : View → (ℕ → ℕ) → Question → List ℕ → List ℕ
wanted_keys v distance q slots = map (key_of distance) (only (wanted_by v distance q) slots)

-- the list b has become r by a search of some slots
abbrev pub Searched : View → (ℕ → ℕ) → Question → List ℕ → Best → Best → Type 0
Searched v distance q slots b r = Kept v q.k (wanted_keys v distance q slots) b r

-- the list r is the page that the question asks for: it holds the keys of the page's slots
pub record Found (v : View) (distance : ℕ → ℕ) (q : Question) (r : Best) : Type 0 where
  pub carried : Carried v q.k r
  pub is : keys_of r ≡ map (key_of distance) (page v distance q.badge.0 q.mark q.k)

-- whether the bay in slot j goes into a list of len bays, of which the kth, if there is one, is last
abbrev pub taken_of : View → (ℕ → ℕ) → Question → ℕ → ℕ → ℕ → Bool
taken_of v distance q j len last =
    filled v j && (wanted_by v distance q j && (ltb len q.k || sooner v (key_of distance j) last))
