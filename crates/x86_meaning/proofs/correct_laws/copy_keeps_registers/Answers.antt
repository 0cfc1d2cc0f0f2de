-- That a copy has to give the preserved registers back.
use Rattle.std.proofs.Common.{false}
use Rattle.x86_meaning.proofs.CopiedWord.{registers_lost, stack_lost}
use Rattle.x86_meaning.proofs.CorrectCopies.{copy_is_correct}
use Rattle.x86_meaning.proofs.correct_laws.copy_keeps_registers.Goals as goal

pub returns-clause-correct : goal.returns-clause-correct
returns-clause-correct c = copy_is_correct false

pub returns-clause-lost : goal.returns-clause-lost
returns-clause-lost c = registers_lost

pub returns-clause-stack : goal.returns-clause-stack
returns-clause-stack c = stack_lost
