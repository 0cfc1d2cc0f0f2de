-- The results of the operations so far, and those of the ones that are left, are all.
use Rattle.std.proofs.Common.{◌≡◌, ◌+◌, drop, length}
use Rattle.word_program.specs.Values.{targets_of}
use Rattle.dependency_graph.proofs.values.result_count.Given as goal

abbrev pub invariant-loop-op : goal.invariant-loop-op
invariant-loop-op l = length (targets_of l.ops) ≡ l.count + length (targets_of (drop l.op-index l.ops))
