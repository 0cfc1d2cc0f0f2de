-- The step on the word that was fetched, behind the fetch, is the whole step.
use Rattle.std.proofs.Common.{rules}
use Rattle.symbolic_values.proofs.StepRules.{fetching}
use Rattle.symbolic_values.proofs.steps.fetch_and_step.Goals as goal

pub returns-clause-step : goal.returns-clause-step
returns-clause-step g c = search (rules, fetching)
