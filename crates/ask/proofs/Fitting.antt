-- What is told of a bay fits the bytes of its record, on an accepted map that is a list of bytes. Assumes nothing.
use Prim.Native.Nat.{ℕ, ◌*◌, ◌/◌, ◌<◌}
use native.Mathlib.Omega.{arith}
use mathlib.Core.Path.{◌≡◌, subst}
use mathlib.Core.Bool.{true}
use mathlib.Core.List.Memᴰ
use mathlib.Core.List.{List, Memᴰ}
use Rattle.std.proofs.lemmas.Bool.{and_parts}
use Rattle.words.specs.Words.{Bytes}
use Rattle.measure.specs.declared.Point.{Point}
use Rattle.floor.specs.View.{view_of, leaf, filled, bay}
use Rattle.floor.proofs.Small.{ref_small, zone_small}
use Rattle.record.specs.declared.Record.{Record}
use Rattle.record.proofs.Bytes.{Small}
use Rattle.question.specs.declared.Question.{Question}
use Rattle.nearest.specs.Ground.{Ground}
use Rattle.nearest.specs.Shown.{distance_to, page}
use Rattle.nearest.proofs.Measured.{distance_small}
use Rattle.nearest.proofs.Listed.{page_bay}
use Rattle.ask.specs.Told.{record_at, page_of}
use Rattle.ask.proofs.Answers.{Granted}
use Rattle.ask.proofs.Replies.{accepted_keeps}

pub record_small : (m : List ℕ) (p : Point) → Bytes m → Ground (view_of m) p → (j : ℕ) → j < 8 * (view_of m).count → bay (view_of m) j ≡ true
    → Small (record_at (view_of m) (distance_to (view_of m) p) j)
record_small m p bytes ground j h b =
    let is_filled = (and_parts (leaf (view_of m) (j / 8)) (filled (view_of m) j) b).1 in
    record {
      bay = ref_small m (λ i. record { fits = bytes i }) j;
      zone = zone_small m (λ i. record { fits = bytes i }) j;
      far = omega (arith, distance_small (view_of m) p ground j h is_filled);
    }

pub granted_ground : (m : List ℕ) (q : Question) (size : ℕ) → Granted m q size → Ground (view_of m) q.from
granted_ground m q size g = record { keeps = accepted_keeps m g.taken; point = g.own.point }

pub page_small : (m : List ℕ) (q : Question) → Bytes m → Ground (view_of m) q.from → (r : Record) → Memᴰ r (page_of m q) → Small r
page_small m q bytes ground r i =
    let v = view_of m in
    let d = distance_to v q.from in
    let told = Memᴰ.of_map (record_at v d) (page v d q.badge.0 q.mark q.k) i in
    let slot = page_bay v d q.badge.0 q.mark q.k told.0 told.1 in
    subst Small told.2 (record_small m q.from bytes ground told.0 slot.0 slot.1)
