-- A search begins with no bays, and what it finds below the root is the page. Assumes nothing.
use Prim.Native.Nat.{ℕ, zero, suc, ◌≤◌}
use native.Mathlib.Omega.{arith}
use mathlib.Core.Path.{◌≡◌, refl, sym, ap, ◌∙◌}
use lib.ListN.{length, get_or, replicate, length-replicate}
use lib.Seq.{length-take-le}
use borrow.Author.Tests.{lt-leb}
use Rattle.floor.specs.View.{View, Shaped}
use Rattle.rules.specs.Verdicts.{Keeps}
use Rattle.order.specs.Order.{Sorted}
use Rattle.tree.specs.Under.{node_bays}
use Rattle.question.specs.declared.Question.{Question}
use Rattle.nearest.specs.declared.best.Best.{Best}
use Rattle.nearest.specs.Best.{keys_of, no_bays, Carried}
use Rattle.nearest.specs.Searched.{Searched, Found}
use Rattle.nearest.proofs.Page.{page_below}

all_zero : (n i : ℕ) → ◌≡◌ {A = ℕ} (get_or (replicate n 0) i 0) 0
all_zero zero i = refl
all_zero (suc n) zero = refl
all_zero (suc n) (suc i) = all_zero n i

pub no_bays_carried : (v : View) (k : ℕ) → Shaped v → 1 ≤ k → k ≤ 100 → Carried v k no_bays
unfolding Sorted
no_bays_carried v k shaped low high =
    record {
      low = low;
      high = high;
      room = length-replicate {A = ℕ} 100 0;
      fits = omega arith;
      slots = λ i. rw (all_zero 100 i) (omega (arith, shaped.rooted));
      sorted = tt;
      worst = rw (lt-leb k 0 (omega arith));
    }

pub root_found : (v : View) (distance : ℕ → ℕ) (q : Question) (root top : ℕ) (b r : Best) → Keeps v → root ≡ v.root → top ≡ v.level root → b ≡ no_bays
    → Searched v distance q (node_bays v top root) b r → Found v distance q r
root_found v distance q root top b r keeps er et eb s =
    let below : Searched v distance q (node_bays v (v.level v.root) v.root) no_bays r = rw (eb, et, er) at s in
    record { carried = below.carried; is = below.is ∙ sym (page_below v keeps distance q) }

-- what is found is fixed inside its length: how many bays, and the key of each
pub found_unique : (v : View) (distance : ℕ → ℕ) (q : Question) (a b : Best) → Found v distance q a → Found v distance q b
    → (a.len ≡ b.len) × (keys_of a ≡ keys_of b)
found_unique v distance q a b f g = (sym (long a f) ∙ ap length (f.is ∙ sym g.is) ∙ long b g, f.is ∙ sym g.is)
  where
    long : (c : Best) → Found v distance q c → length (keys_of c) ≡ c.len
    long c h = let k = h.carried in length-take-le c.len c.keys (omega (arith, k.high, k.room, k.fits))
