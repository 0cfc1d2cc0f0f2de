-- What a slot needs stands before it.
use Rattle.op_order.proofs.LegalLemmas.{needed_before}
use Rattle.op_order.proofs.laws.needed_operations_stand_before.Goals as goal

pub returns : goal.returns
returns c = needed_before
