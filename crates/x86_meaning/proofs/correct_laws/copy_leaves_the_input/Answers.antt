-- That a copy has to leave the input.
use Rattle.x86_meaning.proofs.CopiedWord.{reads_behind, stores_to_input, puts_input_back}
use Rattle.x86_meaning.proofs.correct_laws.copy_leaves_the_input.Goals as goal

pub returns-clause-behind : goal.returns-clause-behind
returns-clause-behind c = reads_behind

pub returns-clause-stored : goal.returns-clause-stored
returns-clause-stored c = stores_to_input

pub returns-clause-put_back : goal.returns-clause-put_back
returns-clause-put_back c = puts_input_back
