-- The entries that were written so far.
use Rattle.std.proofs.Common.{◌≡◌, ◌++◌, take, string_bytes}
use Rattle.std.specs.List.{flat_map}
use Rattle.journal_text.specs.Text.{entry_line}
use Rattle.journal_text.proofs.writing.push_entries.Given as goal

-- the text of the entries so far stands behind what was there
abbrev pub invariant-loop-entry : goal.invariant-loop-entry
invariant-loop-entry l = string_bytes l.text ≡ string_bytes l.fn.text
    ++ flat_map entry_line (take l.entry-index l.entries)
