-- The seeds that were read so far.
use Rattle.std.proofs.Common.{◌≡◌, [], length}
use Rattle.std.specs.List.{slice_split}
use Rattle.journal_text.specs.Lines.{is_byte}
use Rattle.journal_text.specs.Fields.{seeds_from}
use Rattle.journal_text.proofs.seeds.seeds_of.Given as goal

-- the words that are left lead to the same answer
abbrev pub invariant-loop-cut : goal.invariant-loop-cut
invariant-loop-cut l = seeds_from [] (slice_split (is_byte 44) l.word)
    ≡ seeds_from l.seeds (slice_split (is_byte 44) l.rest)

abbrev pub decreases-loop-cut : goal.decreases-loop-cut
decreases-loop-cut l = length l.rest
