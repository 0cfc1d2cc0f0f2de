-- What is found is the first part of another form.
use Rattle.word_program.proofs.FailingOrder.{found_is_first}
use Rattle.fiat_json.specs.Shape.{shape_fault}
use Rattle.fiat_json.proofs.MisshapenLemmas.{FailsInForm, form_found, form_passes}
use Rattle.fiat_json.proofs.laws.first_misshapen_part_is_the_fault.Goals as goal

pub returns-clause-fault : goal.returns-clause-fault
returns-clause-fault c = λ d code place. found_is_first (FailsInForm d) (shape_fault d) (code, place) (form_found d)

pub returns-clause-none : goal.returns-clause-none
returns-clause-none c = λ d. form_passes d
