-- What is found is the first of the rules that fail.
use Rattle.word_program.specs.Rules.{first_fault}
use Rattle.word_program.specs.Failing.{Fails}
use Rattle.word_program.proofs.FailingOrder.{found_is_first}
use Rattle.word_program.proofs.FailingLaws.{fault_found}
use Rattle.word_program.proofs.fault_laws.first_fault_is_first.Goals as goal

pub returns : goal.returns
returns c = λ parts code place.
    found_is_first (λ f. Fails parts f.0 f.1) (first_fault parts) (code, place) (fault_found parts)
