-- A legal plan has each operation once.
use Rattle.op_order.proofs.LegalLemmas.{legal_count, slot_of}
use Rattle.op_order.proofs.laws.each_operation_has_a_slot.Goals as goal

pub returns-clause-count : goal.returns-clause-count
returns-clause-count c = legal_count

pub returns-clause-all : goal.returns-clause-all
returns-clause-all c program slots legal op w = let s = slot_of program slots legal op w in (s.at, s.within, s.is)
