-- No byte so far begins a comment.
use Rattle.std.proofs.Common.{◌≡◌, ◌+◌, drop}
use Rattle.std.specs.List.{position_or_len}
use Rattle.asm_tokens.specs.Lines.{is_hash}
use Rattle.asm_tokens.proofs.lines.code_len.Given as goal

-- none of the bytes so far ends the scan
abbrev pub invariant-loop-count : goal.invariant-loop-count
invariant-loop-count l = position_or_len is_hash l.line ≡ l.count + position_or_len is_hash (drop l.count l.line)
