-- Both flags are emptied, one after the other.
use Rattle.flag_tracks.proofs.HomeLemmas.{emptied_both}
use Rattle.flag_tracks.proofs.tracks.Tracks.empty.Goals as goal

pub returns : goal.returns
returns c = let both = emptied_both c.args.flags c.args.self.now in cc
