-- A slot of the operation moves the last place forward, and another leaves it.
use Rattle.std.proofs.Common.{sym, ◌∙◌}
use Rattle.op_order.specs.Plans.{opening_slot}
use Rattle.op_order.proofs.LastPlace.{past_here, past_not_here}
use Rattle.op_order.proofs.windows.past_slots_of.Goals.{then-slot-op, else-slot-op}
use Rattle.op_order.proofs.windows.past_slots_of.Goals as goal

pub loop-place-preserved : goal.loop-place-preserved
loop-place-preserved c = elim c.if-slot-op.branch [
  | then-slot-op w ↦ w.past-is ∙ sym (past_here c.args.op c.args.slots.now c.loop-place.place
      (opening_slot 0) c.loop-place-test.true w.if-slot-op.true)
  | else-slot-op w ↦ w.past-is ∙ c.loop-place.invariant
      ∙ sym (past_not_here c.args.op c.args.slots.now c.loop-place.place
      (opening_slot 0) c.loop-place-test.true w.if-slot-op.false)
]
