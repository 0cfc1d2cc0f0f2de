-- By the lemmas, fault by fault.
use Rattle.journal_replay.proofs.LawLemmas.{no_fault}
use Rattle.journal_replay.proofs.OneFault.{one_fault}
use Rattle.journal_replay.proofs.laws.faults_come_exactly_where_they_are_first.Goals as goal

pub returns-clause-none : goal.returns-clause-none
returns-clause-none c = no_fault

pub returns-clause-one : goal.returns-clause-one
returns-clause-one c = one_fault
