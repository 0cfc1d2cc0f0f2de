-- By the steps of the instructions.
use Rattle.symbolic_values.proofs.Covered.{covers}
use Rattle.symbolic_values.proofs.laws.symbolic_steps_cover_steps.Goals as goal

pub returns : goal.returns
returns c = covers
