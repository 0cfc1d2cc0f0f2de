-- The plan is kept for the lanes so far, where they look at it next.
use Rattle.std.proofs.Common.{◌≡◌, ◌++◌, map, take, drop}
use Rattle.journal_replay.specs.Inside.{kept}
use Rattle.journal_replay.proofs.lanes.keep_looks.Given as goal

abbrev pub invariant-loop-at : goal.invariant-loop-at
invariant-loop-at l = l.lanes.items
    ≡ map (kept l.from l.to l.plan.slots) (take l.at l.fn.lanes.items) ++ drop l.at l.fn.lanes.items
