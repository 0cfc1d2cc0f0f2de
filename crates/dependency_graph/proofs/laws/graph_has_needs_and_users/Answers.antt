-- The lists of a graph are those of its program.
use Rattle.dependency_graph.proofs.OrderLemmas.{needs_at, users_at, graph_counts}
use Rattle.dependency_graph.proofs.laws.graph_has_needs_and_users.Goals as goal

pub returns-clause-needs : goal.returns-clause-needs
returns-clause-needs c = needs_at

pub returns-clause-users : goal.returns-clause-users
returns-clause-users c = users_at

pub returns-clause-count : goal.returns-clause-count
returns-clause-count c = graph_counts
