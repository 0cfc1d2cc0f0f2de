-- The operations of the values so far come before those of the values that are left.
use Rattle.std.proofs.Common.{◌≡◌, ◌++◌, drop}
use Rattle.dependency_graph.specs.Transposed.{definers_from}
use Rattle.dependency_graph.proofs.operands.definers_of.Given as goal

abbrev pub invariant-loop-op : goal.invariant-loop-op
invariant-loop-op l = record {
  count : l.number ≡ l.op-index;
  definers : definers_from 0 l.ops ≡ l.definers.items ++ definers_from l.number (drop l.op-index l.ops);
}
