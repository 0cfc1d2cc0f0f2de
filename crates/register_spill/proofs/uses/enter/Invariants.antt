-- The lists after all operands are those after the operands that are left.
use Rattle.std.proofs.Common.{◌≡◌, drop, length}
use Rattle.std.specs.List.{AllByRecursion}
use Rattle.op_order.specs.Windows.{IsDefinedAmong}
use Rattle.register_spill.specs.Entering.{entered}
use Rattle.register_spill.proofs.uses.enter.Given as goal

abbrev pub invariant-loop-operand : goal.invariant-loop-operand
invariant-loop-operand l = record {
  lists : entered l.at l.initial.uses.items l.operands ≡ entered l.at l.uses.items (drop l.operand-index l.operands);
  count : length l.uses.items ≡ length l.initial.uses.items;
  operands : AllByRecursion (IsDefinedAmong (length l.uses.items)) (drop l.operand-index l.operands);
}
