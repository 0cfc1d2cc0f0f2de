-- The spots so far are of values that are nowhere.
use Rattle.std.proofs.Common.{◌≡◌, replicate}
use Rattle.register_spill.specs.declared.spot.Spot.TheVariants.{Nowhere}
use Rattle.register_spill.proofs.places.nowhere.Given as goal

abbrev pub invariant-loop : goal.invariant-loop
invariant-loop l = l.spots.items ≡ replicate l.counter Nowhere
