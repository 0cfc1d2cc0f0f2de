-- The loop over the lanes.
use Rattle.std.proofs.Common.{length}
use Rattle.search_workers.proofs.Appended.{Finishes}
use Rattle.search_workers.proofs.finishing.finish.Given as goal

abbrev pub invariant-loop-lane : goal.invariant-loop-lane
invariant-loop-lane l = Finishes l.fn.board l.board l.lane (length l.prepared.ops) l.plan.room
