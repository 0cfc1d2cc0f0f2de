-- The lanes so far are fresh.
use Rattle.std.proofs.Common.{◌≡◌, replicate}
use Rattle.incumbent_board.specs.Inside.{fresh}
use Rattle.incumbent_board.proofs.lanes.new_lanes.Given as goal

abbrev pub invariant-loop : goal.invariant-loop
invariant-loop l = l.lanes.items ≡ replicate l.counter (fresh l.slots)
