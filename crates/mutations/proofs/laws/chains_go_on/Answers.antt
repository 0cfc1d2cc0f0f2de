-- A chain goes on.
use Rattle.mutations.proofs.ChainLemmas.{goes_on}
use Rattle.mutations.proofs.laws.chains_go_on.Goals as goal

pub returns : goal.returns
returns c = goes_on
