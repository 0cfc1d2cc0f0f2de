-- A step leaves a state that fits its table.
use Rattle.symbolic_values.proofs.StepFits.{answered_fits}
use Rattle.symbolic_values.proofs.steps.sym_step.Goals as goal

pub returns-clause-fits : goal.returns-clause-fits
returns-clause-fits g c = let step = c.step_over.ensures.step in
    answered_fits c.step_over.result c.line.inside.instr _ _ _ _ c.line.invariant.0 c.count-count.ensures.table
    c.requires.fits step.3 step.0 step.2
