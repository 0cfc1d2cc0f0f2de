-- By the rows of the instructions.
use Rattle.x86_meaning.proofs.StepKeeps.{leaves}
use Rattle.x86_meaning.proofs.step_laws.step_leaves_the_rest.Goals as goal

pub returns : goal.returns
returns c = leaves
