-- What is kept says it.
use Rattle.std.proofs.Common.{subst}
use Rattle.register_spill.specs.Spots.{ArePlaced, Placed}
use Rattle.register_spill.proofs.SpotLemmas.{placed}
use Rattle.register_spill.proofs.places.Places.at.Goals as goal

pub returns-clause-alone : goal.returns-clause-alone
returns-clause-alone c = subst (λ (p : Placed). ArePlaced p.spots) c.self.view_is
    (placed c.self.inside.spots.items c.self.inside.holders c.self.inside.uses.items c.self.invariant)
