-- The lists so far come before those that are left.
use Rattle.std.proofs.Common.{◌≡◌, [], replicate}
use Rattle.dependency_graph.proofs.transpose.empty_lists.Given as goal

abbrev pub invariant-loop : goal.invariant-loop
invariant-loop l = l.lists.items ≡ replicate l.counter []
