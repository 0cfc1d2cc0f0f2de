-- The lanes so far.
use Rattle.std.proofs.Common.{◌≡◌, map}
use Rattle.std.specs.List.{range_with_len}
use Rattle.journal_replay.specs.Inside.{fresh}
use Rattle.journal_replay.proofs.lanes.new_lanes.Given as goal

abbrev pub invariant-loop-lane : goal.invariant-loop-lane
invariant-loop-lane l = l.lanes.items ≡ map (fresh l.entries l.slots) (range_with_len 0 l.lane)
