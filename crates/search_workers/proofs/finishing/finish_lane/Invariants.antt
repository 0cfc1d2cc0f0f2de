-- The loop over the turns.
use Rattle.search_workers.proofs.Appended.{MakesTurns}
use Rattle.search_workers.proofs.finishing.finish_lane.Given as goal

abbrev pub invariant-loop-round : goal.invariant-loop-round
invariant-loop-round l = MakesTurns l.fn.board l.board l.lane l._round l.fn.plan.room l.plan.room
