-- That a copy which writes before it reads is correct only where outputs do not overlap inputs.
use Rattle.std.proofs.Common.{true}
use Rattle.x86_meaning.proofs.CopiedInPlace.{write_first_refused}
use Rattle.x86_meaning.proofs.CorrectCopies.{copy_is_correct, copy_after_write_is_correct}
use Rattle.x86_meaning.proofs.correct_laws.copy_in_place_reads_first.Goals as goal

pub returns-clause-apart : goal.returns-clause-apart
returns-clause-apart c = copy_after_write_is_correct

pub returns-clause-overlapping : goal.returns-clause-overlapping
returns-clause-overlapping c = write_first_refused

pub returns-clause-reads_first : goal.returns-clause-reads_first
returns-clause-reads_first c = copy_is_correct true
