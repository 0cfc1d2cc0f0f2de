-- The last place of a definer of the operands so far.
use Rattle.std.proofs.Common.{◌≡◌, drop}
use Rattle.std.specs.Prelude.{max}
use Rattle.op_order.proofs.Definers.{past_givers}
use Rattle.op_order.proofs.windows.low.Given as goal

abbrev pub invariant-loop-operand : goal.invariant-loop-operand
invariant-loop-operand l = max l.low (past_givers l.program l.slots (drop l.operand-index l.operand-items))
    ≡ past_givers l.program l.slots l.operand-items
