-- What the answer of a run says.
use Rattle.std.specs.Prelude.{Result, Ok, Err}
use Rattle.x86_meaning.specs.declared.listing_run.Stuck.{Stuck}
use Rattle.x86_meaning.specs.declared.state.State.{State}
use Rattle.x86_meaning.specs.Runs.{Outcome, Ended}
use Rattle.x86_meaning.specs.Runs as runs

-- the outcome of a run with this answer, which left this state
abbrev pub outcome_of : Result (Unit {0}) Stuck → State → Outcome
outcome_of (Ok done) s = Ended s
outcome_of (Err stuck) s = runs.Stuck stuck.line s
