-- Field by field.
use Rattle.search_workers.proofs.Due.{offers_due}
use Rattle.search_workers.proofs.laws.offers_are_due.Goals as goal

pub returns : goal.returns
returns c = offers_due
