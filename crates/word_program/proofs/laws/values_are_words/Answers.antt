-- Along the operations.
use Rattle.word_program.proofs.BitLemmas.{values_are_words}
use Rattle.word_program.proofs.laws.values_are_words.Goals as goal

pub returns : goal.returns
returns c = values_are_words
