-- Sorted by the number, they are in order.
use Rattle.std.proofs.Common.{rules}
use Rattle.std.proofs.lemmas.List.Sorted.{IsNonDecreasingBy-from_sort_by_key}
use Rattle.bays.proofs.sorted.Sorted.of.Goals as goal

pub invariant_of-result : goal.invariant_of-result
invariant_of-result c =
    record {
      in_order = IsNonDecreasingBy-from_sort_by_key (λ k. k.number) _ c.sort_unstable_by_key.ensures.sorted (λ a r q k. search rules);
    }
