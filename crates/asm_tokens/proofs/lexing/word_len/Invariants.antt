-- The bytes so far are of a word.
use Rattle.std.proofs.Common.{◌≡◌, ◌+◌, drop}
use Rattle.std.specs.List.{prefix_len}
use Rattle.asm_tokens.specs.Tokens.{is_word_byte}
use Rattle.asm_tokens.proofs.lexing.word_len.Given as goal

-- none of the bytes so far ends the scan
abbrev pub invariant-loop-count : goal.invariant-loop-count
invariant-loop-count l = prefix_len is_word_byte l.text ≡ l.count + prefix_len is_word_byte (drop l.count l.text)
