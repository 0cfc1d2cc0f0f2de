-- What was read so far, and how many lines.
use Rattle.std.proofs.Common.{◌≡◌, ◌+◌, ◌≤◌, length}
use Rattle.std.specs.Str.Lines.{lines}
use Rattle.asm_tokens.specs.Whole.{read_lines}
use Rattle.asm_text.specs.Reading.{step, done, state, read_text}
use Rattle.asm_text.specs.Views.{stage_view}
use Rattle.asm_text.proofs.reading.read_text.Given as goal

-- no more lines were counted than bytes, and the lines that are left lead to the same answer
abbrev pub invariant-loop-cut : goal.invariant-loop-cut
invariant-loop-cut l = record {
  counted : l.number + length l.rest ≤ length l.bytes + 1;
  read : read_text l.bytes ≡ read_lines step done (state (stage_view l.stage) l.lines) (lines l.rest) l.number;
}

abbrev pub decreases-loop-cut : goal.decreases-loop-cut
decreases-loop-cut l = length l.rest
