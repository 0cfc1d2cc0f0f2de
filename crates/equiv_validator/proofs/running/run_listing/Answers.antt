-- The run is that of the listing.
use Rattle.std.proofs.Common.{◌∙◌}
use Rattle.equiv_validator.proofs.AtEnd.{ran_from, ran_stuck, ran_ended, ran_part, ran_shape, start_part}
use Rattle.equiv_validator.proofs.Induction.{on_err}
use Rattle.equiv_validator.proofs.running.run_listing.Goals as goal

pub returns-in-Some-clause-run : goal.returns-in-Some-clause-run
returns-in-Some-clause-run c =
    ran_stuck c.args.prepared.now c.args.listing.now.lines c.args.tail.now _ _ c.in_ok-state.state c.run.new.state _ _
    c.in_ok-line.field-0 c.in-Some.line
    (ran_from c.requires.base c.requires.empty (c.deref-2.ensures ∙ c.program-2.ensures) c.frame.ensures
    c.start.ensures.table c.in_ok-state.ensures.state c.in_ok-state.ensures.shape)
    c.in-Some.is (rw c.lines.ensures.lines at c.in_ok-line.ensures.run)

pub returns-in-None-clause-run : goal.returns-in-None-clause-run
returns-in-None-clause-run c =
    ran_ended c.args.prepared.now c.args.listing.now.lines c.args.tail.now _ _ c.in_ok-state.state c.run.new.state _ _
    c.in_ok-line.field-0
    (ran_from c.requires.base c.requires.empty (c.deref-2.ensures ∙ c.program-2.ensures) c.frame.ensures
    c.start.ensures.table c.in_ok-state.ensures.state c.in_ok-state.ensures.shape)
    c.in-None.is (rw c.lines.ensures.lines at c.in_ok-line.ensures.run)

pub returns-in-None-clause-shape : goal.returns-in-None-clause-shape
returns-in-None-clause-shape c =
    ran_shape c.args.prepared.now c.args.listing.now.lines c.args.tail.now _ _ c.in_ok-state.state c.run.new.state _ _
    c.in_ok-line.field-0
    (ran_from c.requires.base c.requires.empty (c.deref-2.ensures ∙ c.program-2.ensures) c.frame.ensures
    c.start.ensures.table c.in_ok-state.ensures.state c.in_ok-state.ensures.shape)
    c.in-None.is (rw c.lines.ensures.lines at c.in_ok-line.ensures.run)

pub returns-in_err-state-clause-part : goal.returns-in_err-state-clause-part
returns-in_err-state-clause-part c =
    on_err c.from_residual.result (start_part c.args.prepared.now c.args.listing.now.lines c.args.tail.now _
    c.requires.base c.requires.empty c.start.ensures.table)

pub returns-in_err-line-clause-part : goal.returns-in_err-line-clause-part
returns-in_err-line-clause-part c =
    on_err c.from_residual-in_err-line.result (ran_part c.args.prepared.now c.args.listing.now.lines c.args.tail.now _ _
    c.in_ok-state.state _
    (ran_from c.requires.base c.requires.empty (c.deref-2.ensures ∙ c.program-2.ensures) c.frame.ensures
    c.start.ensures.table c.in_ok-state.ensures.state c.in_ok-state.ensures.shape)
    (rw c.lines.ensures.lines at c.in_err-line.ensures.part))
