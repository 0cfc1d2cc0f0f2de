-- That a copy has to store the input's word.
use Rattle.x86_meaning.proofs.CopiedWord.{complement_refused, nothing_refused}
use Rattle.x86_meaning.proofs.correct_laws.copy_stores_the_output.Goals as goal

pub returns-clause-other_word : goal.returns-clause-other_word
returns-clause-other_word c = complement_refused

pub returns-clause-no_word : goal.returns-clause-no_word
returns-clause-no_word c = nothing_refused
