-- No byte so far is the one that is looked for.
use Rattle.std.proofs.Common.{◌≡◌, ◌+◌, drop}
use Rattle.std.specs.List.{position_or_len}
use Rattle.journal_text.specs.Lines.{is_byte}
use Rattle.journal_text.proofs.fields.bytes_before.Given as goal

-- none of the bytes so far ends the scan
abbrev pub invariant-loop-count : goal.invariant-loop-count
invariant-loop-count l = position_or_len (is_byte l.byte) l.text
    ≡ l.count + position_or_len (is_byte l.byte) (drop l.count l.text)
