-- The loop of a selection: the rules make the same of what is left.
use Rattle.std.proofs.Common.{◌≡◌, ◌<◌, length}
use Rattle.terms.specs.Rules.{select_of}
use Rattle.terms.proofs.select.select_form.Given as goal

abbrev pub invariant-loop-node : goal.invariant-loop-node
invariant-loop-node g l = record {
  same : select_of (g.N.Nodes.nodes l.nodes) l.c l.x l.y
      ≡ select_of (g.N.Nodes.nodes l.nodes) l.condition l.at_zero l.otherwise;
  condition_in : l.condition < length (g.N.Nodes.nodes l.nodes);
  at_zero_in : l.at_zero < length (g.N.Nodes.nodes l.nodes);
  otherwise_in : l.otherwise < length (g.N.Nodes.nodes l.nodes);
}

abbrev pub decreases-loop-node : goal.decreases-loop-node
decreases-loop-node g l = l.condition
