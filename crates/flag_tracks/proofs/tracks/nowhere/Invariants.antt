-- The homes so far are of values that are nowhere.
use Rattle.std.proofs.Common.{◌≡◌, replicate}
use Rattle.flag_tracks.specs.declared.home.Home.TheVariants.{Gone}
use Rattle.flag_tracks.proofs.tracks.nowhere.Given as goal

abbrev pub invariant-loop : goal.invariant-loop
invariant-loop l = l.homes.items ≡ replicate l.counter Gone
