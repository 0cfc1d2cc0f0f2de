-- By the lemmas on numbers.
use Rattle.journal_rules.proofs.NumberLemmas.{has_plans}
use Rattle.journal_rules.proofs.laws.plans_follow_from_journals.Goals as goal

pub returns : goal.returns
returns c = has_plans
