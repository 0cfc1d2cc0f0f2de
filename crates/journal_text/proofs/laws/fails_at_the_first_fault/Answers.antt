-- The reading fails at the first faulty line.
use Rattle.journal_text.proofs.Outcome.{fails_first, first_fails}
use Rattle.journal_text.proofs.laws.fails_at_the_first_fault.Goals as goal

pub returns-clause-first : goal.returns-clause-first
returns-clause-first c = fails_first

pub returns-clause-fails : goal.returns-clause-fails
returns-clause-fails c = first_fails
