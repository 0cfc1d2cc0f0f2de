-- Where nothing is found, no rule fails.
use Rattle.word_program.specs.Rules.{first_fault}
use Rattle.word_program.specs.Failing.{Fails}
use Rattle.word_program.proofs.FailingOrder.{none_is_found}
use Rattle.word_program.proofs.FailingLaws.{fault_found}
use Rattle.word_program.proofs.fault_laws.without_fault_nothing_fails.Goals as goal

pub returns : goal.returns
returns c = λ parts.
    let e = none_is_found (λ f. Fails parts f.0 f.1) (first_fault parts) (fault_found parts) in
    (λ none code place. e.0 none (code, place), λ nothing. e.1 (λ f. nothing f.0 f.1))
