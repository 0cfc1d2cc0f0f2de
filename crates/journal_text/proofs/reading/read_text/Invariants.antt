-- What was read so far, and how many lines.
use Rattle.std.proofs.Common.{◌≡◌, ◌≤◌, length}
use Rattle.asm_tokens.specs.Whole.{read_lines}
use Rattle.journal_text.specs.Lines.{full_lines}
use Rattle.journal_text.specs.Reading.{step, done, read_text, next_number}
use Rattle.journal_text.specs.declared.limits.TheConstants.{MAX_ENTRIES}
use Rattle.journal_text.proofs.reading.read_text.Given as goal

-- the lines that are left lead to the same answer, and the number of the next one follows from what was read
abbrev pub invariant-loop-cut : goal.invariant-loop-cut
invariant-loop-cut l = record {
  read : read_text l.bytes ≡ read_lines step done l.progress (full_lines l.rest) l.number;
  counted : l.number ≡ next_number l.progress;
  small : length l.progress.journal.entries ≤ MAX_ENTRIES;
}

abbrev pub decreases-loop-cut : goal.decreases-loop-cut
decreases-loop-cut l = length l.rest
