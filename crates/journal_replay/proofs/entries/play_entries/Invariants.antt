-- The entries so far are played.
use Rattle.std.proofs.Common.{take, drop}
use Rattle.journal_replay.specs.Checks.{setup_in}
use Rattle.journal_replay.specs.Inside.{IsPlayed}
use Rattle.journal_replay.proofs.entries.play_entries.Given as goal

abbrev pub invariant-loop-at : goal.invariant-loop-at
invariant-loop-at l =
    IsPlayed (setup_in l.program l.journal) (take l.at l.journal.entries) (drop l.at l.journal.entries) l.player
