-- Lane by lane.
use Rattle.std.proofs.Common.{ap, arith, length}
use Rattle.journal_rules.specs.Numbers.{Setup}
use Rattle.search_workers.proofs.Appended.{finishes_next}
use Rattle.search_workers.proofs.finishing.finish.Goals as goal

pub loop-lane-preserved : goal.loop-lane-preserved
loop-lane-preserved c =
    let done = c.in_ok-finish_lane.ensures in
    finishes_next c.args.board.now c.loop-lane.board c.finish_lane.new.board c.loop-lane.lane _ c.loop-lane.plan.room
    c.finish_lane.new.plan.room c.loop-lane.invariant done.later done.room done.made

pub returns-clause-whole : goal.returns-clause-whole
returns-clause-whole c =
    let count = ap (λ (s : Setup). length s.seeds) c.loop-lane.invariant.later.setup in
    c.entries.ensures.whole (λ k low. c.loop-lane.invariant.made k
    (omega (arith, low, count, c.lanes-lane-end.ensures, c.loop-lane-test.false)))
