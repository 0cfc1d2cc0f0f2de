-- One lane more.
use Rattle.std.proofs.Common.{zero-add, arith}
use Rattle.std.proofs.lemmas.Grind.{common_steps}
use Rattle.std.proofs.lemmas.List.FromFn.{map-range_with_len_more}
use Rattle.journal_replay.specs.Inside.{fresh}
use Rattle.journal_replay.proofs.lanes.new_lanes.Goals as goal

pub loop-lane-preserved : goal.loop-lane-preserved
loop-lane-preserved c =
    let more = map-range_with_len_more (fresh c.args.entries.now c.args.slots) 0 c.loop-lane.lane c.loop-lane.lane
    (zero-add c.loop-lane.lane) in
    rw more (grind (arith, common_steps))
