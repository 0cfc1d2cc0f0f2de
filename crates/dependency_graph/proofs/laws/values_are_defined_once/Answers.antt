-- A value is a result of one operation.
use Rattle.dependency_graph.proofs.OrderLemmas.{once}
use Rattle.dependency_graph.proofs.laws.values_are_defined_once.Goals as goal

pub returns : goal.returns
returns c = once
