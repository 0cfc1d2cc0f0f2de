-- The lines so far.
use Rattle.std.proofs.Common.{◌≡◌, take}
use Rattle.journal_replay.proofs.listing.copied.Given as goal

abbrev pub invariant-loop-line : goal.invariant-loop-line
invariant-loop-line l = l.copy ≡ take l.line-index l.lines
