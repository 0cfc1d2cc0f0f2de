-- That the stated start state of every listing exists, and is a start.
use Rattle.std.proofs.Common.{None, refl}
use Rattle.x86_instr.specs.Frame.{frame_of}
use Rattle.x86_meaning.specs.StatedCells.{stated_cells, stated_regs}
use Rattle.x86_meaning.proofs.StatedIsStart.{stated_is_start}
use Rattle.x86_meaning.proofs.StatedRows.{is_stated, params_limits}
use Rattle.x86_meaning.proofs.start_laws.functions_can_start.Goals as goal

pub returns : goal.returns
returns c = λ program lines inputs accepted words within.
    let limits = params_limits program.params accepted.params_limit accepted.params in
    let regs = stated_regs program.params inputs in
    let cells = stated_cells program.params (frame_of lines) inputs in
    let stated = is_stated program lines inputs regs cells (frame_of lines) limits refl refl refl in (
      record { regs = regs; cf = None; of = None; zf = None; cells = cells },
      stated,
      stated_is_start program lines inputs _ limits words stated within,
    )
