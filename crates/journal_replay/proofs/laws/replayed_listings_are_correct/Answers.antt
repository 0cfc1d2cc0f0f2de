-- By the lemma.
use Rattle.journal_replay.proofs.LawLemmas.{replayed_is}
use Rattle.journal_replay.proofs.laws.replayed_listings_are_correct.Goals as goal

pub returns : goal.returns
returns c = replayed_is
