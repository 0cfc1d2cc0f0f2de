-- By the rows of the instructions, and on along the lines.
use Rattle.x86_meaning.proofs.StepKeeps.{step_keeps, run_keeps}
use Rattle.x86_meaning.proofs.step_laws.steps_keep_states.Goals as goal

pub returns-clause-step : goal.returns-clause-step
returns-clause-step c = step_keeps

pub returns-clause-run : goal.returns-clause-run
returns-clause-run c = run_keeps
