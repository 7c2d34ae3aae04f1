-- Each half of a pair fits 32 bits. Assumes nothing.
use Rattle.std.specs.Prelude.{Result, Ok, Err}
use mathlib.Core.List.{List, [], ◌∷◌}
use Prim.Native.Nat.{ℕ, ◌≤◌, ◌<◌}
use native.Mathlib.Omega.{arith}
use lib.Dec.{ltb}
use Rattle.numbers.proofs.Below.{first_is}
use Rattle.floor.specs.View.{View, view_of}
use Rattle.rules.specs.declared.Rule.{Rule}
use Rattle.rules.specs.declared.Rule.TheVariants.{Form, Fill, Links, Boxes, Bays}
use Rattle.rules.specs.declared.Fault.TheVariants.{BadHeader, Broken}
use Rattle.rules.specs.Header.{header_ok}
use Rattle.rules.specs.Verdicts.{Verdict, number_of, node_of, rule_ok, lowest_fault, order, first_broken, verdict_of}
use Rattle.rules.proofs.Exact.{header_exactly}
use Rattle.order.proofs.Place.{by_test}
use Rattle.ask.specs.declared.Refusal.{Refusal}
use Rattle.ask.specs.declared.Refusal.TheVariants.{PointOutside, CountOutside, BadgeRefused, RoomTooShort, MapRefused}
use Rattle.ask.specs.Reply.{answer_number}

pub rule_small : (r : Verdict) → number_of r < 17
rule_small (Ok u) = omega arith
rule_small (Err BadHeader) = omega arith
rule_small (Err (Broken Form n)) = omega arith
rule_small (Err (Broken Fill n)) = omega arith
rule_small (Err (Broken Links n)) = omega arith
rule_small (Err (Broken Boxes n)) = omega arith
rule_small (Err (Broken Bays n)) = omega arith

broken_node : (v : View) (rs : List Rule) → node_of (first_broken v rs) ≤ v.count
unfolding first_broken
broken_node v [] = omega arith
broken_node v (r ∷ rs) =
    by_test (ltb (lowest_fault r v) v.count)
    (λ e. rw e (first_is (rule_ok r v) v.count).within)
    (λ e. rw e (broken_node v rs))

pub node_small : (m : List ℕ) → node_of (verdict_of m) ≤ 256
unfolding verdict_of
node_small m =
    by_test (header_ok (view_of m))
    (λ e. let h = (header_exactly (view_of m)).sound e in rw e (omega (arith, broken_node (view_of m) order)))
    (λ e. rw e (omega arith))

pub answer_small : (a : Result ℕ Refusal) → answer_number a < 6
answer_small (Ok n) = omega arith
answer_small (Err PointOutside) = omega arith
answer_small (Err CountOutside) = omega arith
answer_small (Err BadgeRefused) = omega arith
answer_small (Err RoomTooShort) = omega arith
answer_small (Err MapRefused) = omega arith
