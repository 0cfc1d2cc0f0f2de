-- The operations so far come before those of the operands that are left.
use Rattle.std.proofs.Common.{◌≡◌, ◌++◌, drop}
use Rattle.std.specs.List.{flat_map}
use Rattle.dependency_graph.specs.Transposed.{definer_of}
use Rattle.dependency_graph.proofs.operands.reads_of_one.Given as goal

abbrev pub invariant-loop-operand : goal.invariant-loop-operand
invariant-loop-operand l = flat_map (definer_of l.definers) l.operands ≡ l.reads
    ++ flat_map (definer_of l.definers) (drop l.operand-index l.operands)
