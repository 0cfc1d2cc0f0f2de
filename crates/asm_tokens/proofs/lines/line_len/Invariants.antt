-- No byte so far is a line feed.
use Rattle.std.proofs.Common.{◌≡◌, ◌+◌, drop}
use Rattle.std.specs.List.{position_or_len}
use Rattle.asm_tokens.specs.Lines.{is_feed}
use Rattle.asm_tokens.proofs.lines.line_len.Given as goal

-- none of the bytes so far ends the scan
abbrev pub invariant-loop-count : goal.invariant-loop-count
invariant-loop-count l = position_or_len is_feed l.text ≡ l.count + position_or_len is_feed (drop l.count l.text)
