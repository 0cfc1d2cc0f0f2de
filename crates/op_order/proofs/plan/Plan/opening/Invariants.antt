-- The slots of the operations so far.
use Rattle.std.proofs.Common.{◌≡◌, ◌≤◌, map}
use Rattle.std.specs.List.{range_with_len}
use Rattle.std.specs.Vec.{vec_capacity}
use Rattle.op_order.specs.Plans.{opening_slot}
use Rattle.op_order.proofs.plan.Plan.opening.Given as goal

abbrev pub invariant-loop-op : goal.invariant-loop-op
invariant-loop-op l = record {
  so_far : l.slots.items ≡ map opening_slot (range_with_len 0 l.op);
  room : l.room ≤ vec_capacity l.slots;
}
