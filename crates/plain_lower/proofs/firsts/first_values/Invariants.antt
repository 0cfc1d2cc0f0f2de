-- The loop over the operations, each with the number of its first result.
use Rattle.std.proofs.Common.{◌≡◌}
use Rattle.dependency_graph.specs.Needs.{first_value}
use Rattle.plain_lower.proofs.FirstValues.{first_values_to}
use Rattle.plain_lower.proofs.firsts.first_values.Given as goal

-- the list has the numbers of the operations so far, and the next one is at hand
abbrev pub invariant-loop-op : goal.invariant-loop-op
invariant-loop-op l = (l.firsts.items ≡ first_values_to l.program l.op-index)
    × (l.value ≡ first_value l.program l.op-index)
