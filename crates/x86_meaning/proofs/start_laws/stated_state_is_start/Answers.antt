-- That the stated start state is a start.
use Rattle.x86_meaning.proofs.StatedIsStart.{stated_is_start}
use Rattle.x86_meaning.proofs.start_laws.stated_state_is_start.Goals as goal

pub returns : goal.returns
returns c = λ program lines inputs s ok words within stated. stated_is_start program lines inputs s ok words stated
    within
