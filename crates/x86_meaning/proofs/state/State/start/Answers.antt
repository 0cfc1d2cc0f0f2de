-- The registers and cells that were made are the stated ones.
use Rattle.x86_meaning.specs.Stated.{AreWords}
use Rattle.x86_meaning.proofs.StatedRows.{are_words, is_stated}
use Rattle.x86_meaning.proofs.StatedIsStart.{stated_is_start}
use Rattle.x86_meaning.proofs.state.State.start.Goals as goal

pub returns-clause-stated : goal.returns-clause-stated
returns-clause-stated c =
    is_stated c.args.program.now c.args.listing.now.lines c.args.inputs.now c.stated_regs.result c.in_ok-cells.cells
    c.frame.result
    c.stated_cells.ensures.limits c.frame.ensures c.stated_regs.ensures c.in_ok-cells.ensures.cells

pub returns-clause-start : goal.returns-clause-start
returns-clause-start c =
    let words : AreWords c.args.inputs.now = are_words c.args.inputs.now c.type_inv.inputs in
    stated_is_start c.args.program.now c.args.listing.now.lines c.args.inputs.now _ c.stated_cells.ensures.limits words
    (returns-clause-stated c) c.in_ok-check_inputs.ensures.within
