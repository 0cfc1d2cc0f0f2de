-- What success means, from how the search ended.
use Rattle.search_top.proofs.Successes.{on_success}
use Rattle.search_top.proofs.search_command.search.Goals as goal

pub returns-clause-success : goal.returns-clause-success
returns-clause-success g c = on_success _ _ _ c.dispatch.ensures.answer
