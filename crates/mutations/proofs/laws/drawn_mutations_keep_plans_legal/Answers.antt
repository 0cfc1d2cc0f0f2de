-- A drawn mutation fits, and what fits leaves a legal plan.
use Rattle.std.proofs.Common.{refl}
use Rattle.mutations.specs.Mutations.{drawn}
use Rattle.mutations.proofs.Applied.{legal_after}
use Rattle.mutations.proofs.FitsDrawn.{drawn_fits}
use Rattle.mutations.proofs.laws.drawn_mutations_keep_plans_legal.Goals as goal

pub returns-clause-fits : goal.returns-clause-fits
returns-clause-fits c = drawn_fits

pub returns-clause-legal : goal.returns-clause-legal
returns-clause-legal c p slots mutation legal fits = legal_after p mutation slots _ legal fits refl

pub returns-clause-drawn : goal.returns-clause-drawn
returns-clause-drawn c p slots words draw accepted legal =
    legal_after p (drawn p slots words draw) slots _ legal (drawn_fits p slots words draw accepted legal) refl
