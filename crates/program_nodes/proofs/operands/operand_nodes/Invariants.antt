-- The nodes of the operands so far come before those of the ones that are left.
use Rattle.std.proofs.Common.{◌≡◌, ◌+◌, ◌≤◌, ◌++◌, drop, length}
use Rattle.program_nodes.specs.Sources.{operands_made}
use Rattle.program_nodes.proofs.operands.operand_nodes.Given as goal

abbrev pub invariant-loop-operand : goal.invariant-loop-operand
invariant-loop-operand l = record {
  table : (operands_made l.params l.values l.initial.store l.operands).table
      ≡ (operands_made l.params l.values l.store (drop l.operand-index l.operands)).table;
  numbers : (operands_made l.params l.values l.initial.store l.operands).numbers ≡ l.numbers.items
      ++ (operands_made l.params l.values l.store (drop l.operand-index l.operands)).numbers;
  few : length l.store ≤ length l.initial.store + l.operand-index;
}
