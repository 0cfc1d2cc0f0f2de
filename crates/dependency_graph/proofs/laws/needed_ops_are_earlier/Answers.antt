-- A needed operation is an earlier one.
use Rattle.dependency_graph.proofs.OrderLemmas.{earlier}
use Rattle.dependency_graph.proofs.laws.needed_ops_are_earlier.Goals as goal

pub returns : goal.returns
returns c = earlier
