-- Needs and users are converse.
use Rattle.dependency_graph.proofs.OrderLemmas.{converse}
use Rattle.dependency_graph.proofs.laws.needs_and_users_are_converse.Goals as goal

pub returns : goal.returns
returns c = converse
