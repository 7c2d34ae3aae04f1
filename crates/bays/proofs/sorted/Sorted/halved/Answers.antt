-- The partition point is where the first key stands whose number is not lower.
use Rattle.std.proofs.Common.{sym, ap, ◌∙◌, ltb, rules, arith}
use Rattle.std.proofs.lemmas.List.Sorted.{IsPartitionPoint-from_clause, IsPartitionedBy-ltb}
use Rattle.bays.specs.declared.sorted.Key.{Key}
use Rattle.bays.proofs.Search.{from_meets, from_ends}
use Rattle.bays.proofs.sorted.Sorted.halved.Goals as goal

pub returns-in-Some : goal.returns-in-Some
returns-in-Some c =
    let keys = c.args.self.now.keys.now in
    let b = c.args.b in
    let key = c.in-Some.k.now in
    let at = c.in-Some.ensures.lookup.3 in
    let parted = IsPartitionedBy-ltb (λ k. k.number) keys b c.args.self.now.in_order in
    let point = IsPartitionPoint-from_clause (λ k. ltb k.number b) keys _ c.partition_point-at.ensures.partitioned parted (λ a r q k. search rules) in
    ap (λ (k : Key). k.entry) (at.1 key) ∙ sym (from_meets b keys _ key point.0 at.0 (point.1 _ key (omega arith) at.0))

pub returns-in-None : goal.returns-in-None
returns-in-None c =
    let keys = c.args.self.now.keys.now in
    let b = c.args.b in
    let parted = IsPartitionedBy-ltb (λ k. k.number) keys b c.args.self.now.in_order in
    let point = IsPartitionPoint-from_clause (λ k. ltb k.number b) keys _ c.partition_point-at.ensures.partitioned parted (λ a r q k. search rules) in
    let past = c.in-None.ensures.lookup.3 in
    sym (from_ends b keys (λ i d l. point.0 i d (omega arith) (omega arith)))
