-- No value is in a flag.
use Rattle.x86_instr.specs.Flags.{carry_only, overflow_only}
use Rattle.flag_tracks.proofs.HolderLemmas.{none_at_first}
use Rattle.flag_tracks.proofs.tracks.Tracks.new.Goals as goal

pub invariant_of-result : goal.invariant_of-result
invariant_of-result c = record {
  carry_is = none_at_first carry_only c.in_ok-homes.homes.items c.values.result c.in_ok-homes.ensures;
  overflow_is = none_at_first overflow_only c.in_ok-homes.homes.items c.values.result c.in_ok-homes.ensures;
}
