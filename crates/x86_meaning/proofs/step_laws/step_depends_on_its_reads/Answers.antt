-- By the rows of the instructions.
use Rattle.x86_meaning.proofs.StepReads.{steps_alike}
use Rattle.x86_meaning.proofs.step_laws.step_depends_on_its_reads.Goals as goal

pub returns : goal.returns
returns c = steps_alike
