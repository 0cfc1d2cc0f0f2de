-- The loop over the slots: the owned lines begin with those of the slots so far.
use Rattle.std.proofs.Common.{◌≡◌, take}
use Rattle.op_order.specs.Realises.{plan_lines}
use Rattle.equiv_validator.specs.Owned.{Leaves}
use Rattle.equiv_validator.proofs.realising.past_slots.Given as goal

abbrev pub invariant-loop-slot : goal.invariant-loop-slot
invariant-loop-slot l = record {
  number : l.number ≡ l.slot-index;
  leaves : Leaves l.lines (plan_lines l.program (take l.slot-index l.slots)) l.left;
}
