-- What the step has made is a first part of what the rest of the run makes.
use Rattle.std.proofs.Common.{rules}
use Rattle.equiv_validator.proofs.Induction.{on_err, run_part}
use Rattle.equiv_validator.proofs.running.run.Goals as goal

pub returns-in_err-sym_step-clause-part : goal.returns-in_err-sym_step-clause-part
returns-in_err-sym_step-clause-part g c =
    on_err c.from_residual.result
    (run_part c.args.lines.now c.loop-line.line-index c.loop-line.number c.line-item.result
    (g.T.Nodes.nodes c.args.store.now) (g.T.Nodes.nodes c.loop-line.store) c.args.state.now c.loop-line.state
    (search rules) (search rules) (search rules) c.loop-line.invariant.run c.in_err-sym_step.ensures.part)
