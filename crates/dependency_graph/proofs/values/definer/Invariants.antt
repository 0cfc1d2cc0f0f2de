-- The results of the operations so far have smaller numbers.
use Rattle.std.proofs.Common.{◌≡◌, ◌≤◌}
use Rattle.dependency_graph.proofs.NeedLemmas.{results}
use Rattle.dependency_graph.proofs.values.definer.Given as goal

abbrev pub invariant-loop-op : goal.invariant-loop-op
invariant-loop-op l = record {
  count : l.number ≡ l.op-index;
  end : l.end ≡ results l.program.ops l.op-index;
  low : l.end ≤ l.value;
}
