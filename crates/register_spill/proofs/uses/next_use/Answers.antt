-- The slots before `now` stand in front of the others.
use Rattle.std.proofs.Common.{◌∙◌, arith, rules, ltb, ltb-true}
use Rattle.std.proofs.lemmas.Bool.{ltb-false}
use Rattle.std.proofs.lemmas.List.Sorted.{IsPartitionPoint-from_clause, IsPartitionedBy-ltb}
use Rattle.register_spill.proofs.NextUse.{next_at}
use Rattle.register_spill.proofs.uses.next_use.Goals as goal

pub returns : goal.returns
returns c =
    let parted = IsPartitionedBy-ltb (λ x. x) _ c.args.now c.requires in
    let point = IsPartitionPoint-from_clause (λ y. ltb y c.args.now) _ _ c.partition_point-place.ensures.partitioned
    parted (λ a r q k. search rules) in
    c.slot_at.ensures ∙ next_at c.args.uses.now c.args.now c.partition_point-place.result
    c.partition_point-place.ensures.bound
    (λ k h. ltb-true _ _ (point.0 k 0 (omega arith) h))
    (λ h. ltb-false _ _ (point.1 c.partition_point-place.result 0 (omega arith) h))
