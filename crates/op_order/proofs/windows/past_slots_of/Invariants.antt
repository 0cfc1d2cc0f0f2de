-- The last place of the operation among the slots so far.
use Rattle.std.proofs.Common.{◌≡◌, take}
use Rattle.std.specs.Prelude.{◌==◌}
use Rattle.op_order.specs.Windows.{past_last}
use Rattle.op_order.proofs.windows.past_slots_of.Given as goal

abbrev pub invariant-loop-place : goal.invariant-loop-place
invariant-loop-place l = l.past ≡ past_last (λ slot. slot.op == l.op) (take l.place l.slots)
