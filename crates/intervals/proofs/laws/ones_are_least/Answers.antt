-- The number of ones that the table gives is the least.
use Rattle.intervals.proofs.Lies.{least_ones}
use Rattle.intervals.proofs.laws.ones_are_least.Goals as goal

pub returns : goal.returns
returns c = least_ones
