-- The first slot that differs, once and where there is one.
use Rattle.op_order.proofs.Differing.{differs_once, differs_not_realised}
use Rattle.op_order.proofs.Deciding.{differs_somewhere}
use Rattle.op_order.proofs.laws.listings_differ_first_at_one_slot.Goals as goal

pub returns-clause-once : goal.returns-clause-once
returns-clause-once c = differs_once

pub returns-clause-differs : goal.returns-clause-differs
returns-clause-differs c = differs_not_realised

pub returns-clause-there : goal.returns-clause-there
returns-clause-there c = differs_somewhere
