-- What is found is the first of the rules that fail, of the form and then of the parts.
use Rattle.word_program.proofs.FailingOrder.{found_is_first, none_is_found}
use Rattle.fiat_json.specs.Misshapen.{DocumentFails}
use Rattle.fiat_json.specs.Reading.{document_fault}
use Rattle.fiat_json.proofs.MisshapenLemmas.{document_found}
use Rattle.fiat_json.proofs.laws.first_fault_of_a_document_is_first.Goals as goal

pub returns-clause-fault : goal.returns-clause-fault
returns-clause-fault c = λ d code place.
    found_is_first (λ f. DocumentFails d f.0 f.1) (document_fault d) (code, place) (document_found d)

pub returns-clause-none : goal.returns-clause-none
returns-clause-none c = λ d.
    let e = none_is_found (λ f. DocumentFails d f.0 f.1) (document_fault d) (document_found d) in
    (λ none code place. e.0 none (code, place), λ nothing. e.1 (λ f. nothing f.0 f.1))
