-- The list of needs has the needed operations.
use Rattle.dependency_graph.proofs.NeedLemmas.{has_needs}
use Rattle.dependency_graph.proofs.laws.needs_are_the_needed_ops.Goals as goal

pub returns : goal.returns
returns c = has_needs
