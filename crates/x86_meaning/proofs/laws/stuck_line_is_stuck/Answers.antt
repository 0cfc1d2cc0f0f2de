-- That a run is stuck at a line that is stuck.
use Rattle.x86_meaning.proofs.StuckLines.{stuck_line}
use Rattle.x86_meaning.proofs.laws.stuck_line_is_stuck.Goals as goal

pub returns : goal.returns
returns c = stuck_line
