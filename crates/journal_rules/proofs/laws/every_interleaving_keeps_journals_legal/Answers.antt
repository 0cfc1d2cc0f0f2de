-- Step by step.
use Rattle.journal_rules.proofs.Runs.{starts, run_keeps}
use Rattle.journal_rules.proofs.laws.every_interleaving_keeps_journals_legal.Goals as goal

pub returns-clause-start : goal.returns-clause-start
returns-clause-start c = starts

pub returns-clause-run : goal.returns-clause-run
returns-clause-run c = run_keeps
