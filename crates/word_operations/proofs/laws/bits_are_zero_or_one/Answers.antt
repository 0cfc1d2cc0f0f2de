-- Row by row of the table.
use Rattle.word_operations.proofs.ResultLemmas.{bits}
use Rattle.word_operations.proofs.laws.bits_are_zero_or_one.Goals as goal

pub returns : goal.returns
returns c = bits
