-- The first template of each kind is always there.
use Rattle.templates.proofs.TableLemmas.{has_template}
use Rattle.templates.proofs.laws.each_operation_has_a_template.Goals as goal

pub returns : goal.returns
returns c = has_template
