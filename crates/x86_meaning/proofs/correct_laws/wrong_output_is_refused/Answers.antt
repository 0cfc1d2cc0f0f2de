-- That a listing which may give a wrong output is not correct.
use Rattle.x86_meaning.proofs.Refusing.{output_refused}
use Rattle.x86_meaning.proofs.correct_laws.wrong_output_is_refused.Goals as goal

pub returns : goal.returns
returns c = output_refused
