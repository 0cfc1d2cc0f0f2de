-- The lines that were written so far.
use Rattle.std.proofs.Common.{◌≡◌, ◌++◌, take, string_bytes}
use Rattle.std.specs.List.{flat_map}
use Rattle.asm_text.specs.Assembly.{line_text}
use Rattle.asm_text.proofs.writing.push_lines.Given as goal

-- the text of the lines so far stands behind what was there
abbrev pub invariant-loop-line : goal.invariant-loop-line
invariant-loop-line l = string_bytes l.text ≡ string_bytes l.fn.text ++ flat_map line_text (take l.line-index l.lines)
