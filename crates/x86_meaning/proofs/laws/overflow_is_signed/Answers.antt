-- That the overflow flag is that of words with a sign.
use Rattle.x86_meaning.proofs.Overflow.{sum_flag, difference_flag}
use Rattle.x86_meaning.proofs.laws.overflow_is_signed.Goals as goal

pub returns : goal.returns
returns c = record { sum = sum_flag; difference = difference_flag }
