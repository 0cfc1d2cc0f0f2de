-- Nothing is marked.
use Rattle.std.proofs.Common.{false}
use Rattle.std.proofs.lemmas.List.{get_or-replicate}
use Rattle.base.specs.declared.limits.TheConstants.{MAX_OPERATIONS}
use Rattle.mutations.proofs.chains.no_marks.Goals as goal

pub returns : goal.returns
returns c op low = get_or-replicate MAX_OPERATIONS op false false low
