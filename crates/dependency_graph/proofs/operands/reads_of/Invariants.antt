-- The lists so far come before those of the operations that are left.
use Rattle.std.proofs.Common.{◌≡◌, ◌++◌, drop, map}
use Rattle.dependency_graph.specs.Transposed.{reads_of}
use Rattle.dependency_graph.proofs.operands.reads_of.Given as goal

abbrev pub invariant-loop-op : goal.invariant-loop-op
invariant-loop-op l = map (reads_of l.definers) l.ops ≡ l.reads.items
    ++ map (reads_of l.definers) (drop l.op-index l.ops)
