-- One lane more.
use Rattle.std.proofs.Common.{◌<◌, length, arith}
use Rattle.std.proofs.lemmas.List.Edits.{map_over_more}
use Rattle.journal_replay.specs.Inside.{kept}
use Rattle.journal_replay.proofs.lanes.keep_looks.Goals as goal

pub loop-at-preserved : goal.loop-at-preserved
loop-at-preserved c =
    let xs = c.args.lanes.now.items in
    let within = c.loop-at-test.true in
    let size = c.len-at-end.ensures in
    let low : c.loop-at.at < length xs = omega arith in
    rw c.keep_look.ensures (map_over_more (kept c.args.from c.args.to c.args.plan.now.slots) xs c.loop-at.lanes.items
    c.loop-at.at c.index_mut.result.now low c.loop-at.invariant c.index_mut.ensures.value)
