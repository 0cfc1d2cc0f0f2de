-- The loop over the parameters, each with a line that saves it.
use Rattle.std.proofs.Common.{◌≡◌, ◌++◌, drop}
use Rattle.plain_lower.specs.Plain as spec
use Rattle.plain_lower.proofs.listing.push_saves.Given as goal

-- the lines so far and the saves to come are all
abbrev pub invariant-loop-param : goal.invariant-loop-param
invariant-loop-param l = l.lines ++ spec.saves_from l.param (drop l.param l.params) ≡ l.fn.lines
    ++ spec.saves_from 0 l.params
