-- The graph is that of a program, where operations need earlier ones alone.
use Rattle.std.proofs.Common.{◌<◌, ℕ, sym, subst}
use Rattle.std.specs.List.{AllByRecursion}
use Rattle.dependency_graph.proofs.OrderLemmas.{needs_earlier_at}
use Rattle.dependency_graph.proofs.graph.Graph.needs.Goals as goal

pub returns-clause-earlier : goal.returns-clause-earlier
returns-clause-earlier c = subst (AllByRecursion (λ (other : ℕ). other < c.args.op)) (sym c.list_at.ensures)
    (needs_earlier_at _ c.self.invariant c.as_slice.result.now c.args.op c.as_slice.ensures.value)
