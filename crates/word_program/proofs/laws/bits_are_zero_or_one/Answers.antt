-- Along the operations.
use Rattle.word_program.proofs.BitLemmas.{bits_hold}
use Rattle.word_program.proofs.laws.bits_are_zero_or_one.Goals as goal

pub returns : goal.returns
returns c = λ program inputs accepted within. bits_hold program inputs accepted within _
