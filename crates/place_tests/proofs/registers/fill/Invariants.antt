-- No value comes or goes.
use Rattle.std.proofs.Common.{◌≡◌, length}
use Rattle.place_tests.proofs.registers.fill.Given as goal

abbrev pub invariant-loop-value : goal.invariant-loop-value
invariant-loop-value l = length l.places.spots ≡ length l.initial.places.spots
