-- That the run of a correct listing ends with what the program asks for.
use Rattle.x86_instr.specs.Frame.{frame_of}
use Rattle.x86_meaning.specs.Correct.{Keeps, Returns}
use Rattle.x86_meaning.proofs.RunStates.{runs_keep}
use Rattle.x86_meaning.proofs.correct_laws.correct_listing_ends.Goals as goal

pub returns : goal.returns
returns c = λ program lines correct inputs s start.
    runs_keep (λ t. Keeps program.params (frame_of lines) s t.cells)
    (λ t. Returns program (frame_of lines) inputs s t) lines 1 s (correct.runs inputs s start)
