-- By the rows of the instructions.
use Rattle.x86_meaning.proofs.StepStuck.{goes_on}
use Rattle.x86_meaning.proofs.step_laws.step_needs_its_cell_and_flags.Goals as goal

pub returns : goal.returns
returns c = goes_on
