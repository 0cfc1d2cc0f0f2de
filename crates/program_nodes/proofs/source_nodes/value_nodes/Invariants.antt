-- All operations are those so far, and then those that are left, before which stands what each operation needs.
use Rattle.std.proofs.Common.{◌≡◌, ◌+◌, ◌*◌, ◌≤◌, [], drop, length}
use Rattle.std.specs.Prelude.{fold}
use Rattle.program_nodes.specs.Sources.{and_op}
use Rattle.program_nodes.proofs.ProgramNodes.{IsBehind}
use Rattle.program_nodes.proofs.source_nodes.value_nodes.Given as goal

abbrev pub invariant-loop-op : goal.invariant-loop-op
invariant-loop-op l = record {
  made : fold (and_op l.params) (record { table = l.initial.store; numbers = [] }) l.ops
      ≡ fold (and_op l.params) (record { table = l.store; numbers = l.numbers.items }) (drop l.op-index l.ops);
  behind : IsBehind l.params (record { table = l.store; numbers = l.numbers.items }) (drop l.op-index l.ops);
  few : length l.store ≤ length l.initial.store + 6 * l.op-index;
}
