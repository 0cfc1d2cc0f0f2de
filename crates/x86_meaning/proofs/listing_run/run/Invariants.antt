-- What the loop over the lines keeps.
use Rattle.std.proofs.Common.{◌≡◌, ◌+◌, drop}
use Rattle.x86_meaning.specs.Runs.{run_from}
use Rattle.x86_meaning.proofs.listing_run.run.Given as goal

-- the run of the lines to come ends as the whole run does
abbrev pub invariant-loop-number : goal.invariant-loop-number
invariant-loop-number l = run_from (l.number + 1) (drop l.number l.lines) l.state ≡ run_from 1 l.lines l.fn.state
