-- That a listing which may lose a preserved register is not correct.
use Rattle.x86_meaning.proofs.Refusing.{registers_refused}
use Rattle.x86_meaning.proofs.correct_laws.lost_register_is_refused.Goals as goal

pub returns : goal.returns
returns c = registers_refused
