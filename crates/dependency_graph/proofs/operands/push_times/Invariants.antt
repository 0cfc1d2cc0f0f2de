-- The list has grown by as many numbers as were pushed.
use Rattle.std.proofs.Common.{◌≡◌, ◌++◌, replicate}
use Rattle.dependency_graph.proofs.operands.push_times.Given as goal

abbrev pub invariant-loop : goal.invariant-loop
invariant-loop l = l.list.items ≡ l.initial.list.items ++ replicate l.counter l.number
