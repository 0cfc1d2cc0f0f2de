-- That a listing which may change other cells, for a while or for good, is not correct.
use Rattle.x86_meaning.proofs.Refusing.{word_refused, address_refused}
use Rattle.x86_meaning.proofs.correct_laws.changed_cell_is_refused.Goals as goal

pub returns-clause-words : goal.returns-clause-words
returns-clause-words c = word_refused

pub returns-clause-addresses : goal.returns-clause-addresses
returns-clause-addresses c = address_refused
