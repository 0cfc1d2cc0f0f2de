-- The loop of a selection: a condition that is a test is turned round.
use Rattle.std.proofs.Common.{arith}
use Rattle.terms.proofs.SelectTurns.{select_turned, tested_below}
use Rattle.terms.proofs.select.select_form.Goals as goal

pub loop-node-preserved : goal.loop-node-preserved
loop-node-preserved g c = grind (arith, select_turned, tested_below)
