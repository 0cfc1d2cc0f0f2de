-- The graph is that of a program, where operations are needed by later ones alone.
use Rattle.std.proofs.Common.{◌<◌, ℕ, length, sym, subst}
use Rattle.std.specs.List.{AllByRecursion}
use Rattle.dependency_graph.proofs.OrderLemmas.{users_later_at, users_are_ops_at}
use Rattle.dependency_graph.proofs.graph.Graph.users.Goals as goal

pub returns-clause-later : goal.returns-clause-later
returns-clause-later c = subst (AllByRecursion (λ (user : ℕ). c.args.op < user)) (sym c.list_at.ensures)
    (users_later_at _ c.self.invariant c.as_slice.result.now c.args.op c.as_slice.ensures.value)

pub returns-clause-within : goal.returns-clause-within
returns-clause-within c = subst (AllByRecursion (λ (user : ℕ). user < length c.args.self.now.users))
    (sym c.list_at.ensures) (users_are_ops_at _ _ c.self.view_is c.self.invariant c.as_slice.result.now c.args.op
    c.as_slice.ensures.value)
