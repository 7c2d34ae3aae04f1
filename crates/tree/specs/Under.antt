-- What lies below a node of a view: its own slots, and what lies below the nodes that its slots name.
use Rattle.std.specs.Prelude.{◌≡◌, true, cond, List, [], ◌∷◌, ℕ, zero, suc, ◌+◌, ◌*◌, ◌/◌, ◌<◌, ◌≤ℤ◌}
use Rattle.measure.specs.declared.Span.{Span}
use Rattle.floor.specs.View.{View, filled, link}
use Rattle.floor.specs.Layout.{axis_count}
use Rattle.order.specs.Order.{gather}

-- slot k lies below node t, or in it
pub data Under (v : View) : ℕ → ℕ → Type 0 where
  here : {t k : ℕ} → k / 8 ≡ t → Under v t k
  down : {t k : ℕ} (j : ℕ) → j < 8 * v.count → link v j ≡ true → j / 8 ≡ t → Under v (v.ref j) k → Under v t k

-- the span s lies within t
pub record Inside (s t : Span) : Type 0 where
  pub low : t.low ≤ℤ s.low
  pub high : s.high ≤ℤ t.high

-- slot k lies within slot j on every axis
abbrev pub InBox : View → ℕ → ℕ → Type 0
InBox v j k = (a : ℕ) → a < axis_count → Inside (v.span k a) (v.span j a)

-- The bays below, as a search that goes down comes upon them: the numbers of their slots. For the proofs of searches: what
-- a reader believes is flat, in Flat.
module _ (v : View) where
  -- below a filled slot of a node of the level l: the bay itself, or the bays of the node that it names
  unfoldable pub slot_bays : ℕ → ℕ → List ℕ
  slot_bays zero j = j ∷ []
  slot_bays (suc l) j = gather (λ i. cond (filled v (8 * v.ref j + i)) (slot_bays l (8 * v.ref j + i)) []) 8

  -- what slot i of a node of the level l brings, and the node's eight slots
  abbrev pub part_bays : ℕ → ℕ → ℕ → List ℕ
  part_bays l n i = cond (filled v (8 * n + i)) (slot_bays l (8 * n + i)) []

  abbrev pub node_bays : ℕ → ℕ → List ℕ
  node_bays l n = gather (part_bays l n) 8
