-- A place in the window and a template of the operation fit.
use Rattle.mutations.proofs.FitsDrawn.{move_fits, template_fits}
use Rattle.mutations.proofs.drawing.mutation_of.Goals as goal

pub returns-in-0-clause-fits : goal.returns-in-0-clause-fits
returns-in-0-clause-fits c = move_fits c.args.program.now c.args.plan.now.slots _ _ c.place_drawn.result
    c.requires.legal c.requires.slot c.place_drawn.ensures

pub returns-in-1-clause-fits : goal.returns-in-1-clause-fits
returns-in-1-clause-fits c = template_fits c.args.program.now c.args.plan.now.slots _ _ c.template_drawn.result
    c.requires.legal c.requires.slot c.template_drawn.ensures
