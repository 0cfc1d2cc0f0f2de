-- Row by row of the table.
use Rattle.word_operations.proofs.ResultLemmas.{words}
use Rattle.word_operations.proofs.laws.results_are_words.Goals as goal

pub returns : goal.returns
returns c = words
