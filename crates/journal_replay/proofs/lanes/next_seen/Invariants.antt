-- The entries so far are of other lanes.
use Rattle.std.proofs.Common.{◌≡◌, drop}
use Rattle.journal_replay.specs.Inside.{next_seen}
use Rattle.journal_replay.proofs.lanes.next_seen.Given as goal

abbrev pub invariant-loop-entry : goal.invariant-loop-entry
invariant-loop-entry l = next_seen l.lane l.entries ≡ next_seen l.lane (drop l.entry-index l.entries)
