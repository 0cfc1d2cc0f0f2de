-- That a listing which may be stuck is not correct.
use Rattle.x86_meaning.proofs.Refusing.{never_stuck}
use Rattle.x86_meaning.proofs.correct_laws.stuck_run_is_refused.Goals as goal

pub returns : goal.returns
returns c = λ program lines inputs s start number t e correct.
    never_stuck program lines inputs s start correct number t e
