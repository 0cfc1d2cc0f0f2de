-- Equality of nodes.
use Rattle.std.proofs.lemmas.Bool.Decides.{Decides-at}
use Rattle.terms.proofs.Same.{Node-Decides}
use Rattle.terms.proofs.nodes.is_same.Goals as goal

-- src/nodes.rt:51:1
pub returns : goal.returns
returns c = Decides-at _ _ c.eq.ensures (Node-Decides c.args.a.now c.args.b.now)
