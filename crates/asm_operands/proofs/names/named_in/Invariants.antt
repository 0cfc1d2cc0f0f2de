-- No row so far has the name.
use Rattle.std.proofs.Common.{◌≡◌, drop}
use Rattle.asm_operands.specs.Names.{named_in, rows_of}
use Rattle.asm_operands.proofs.names.named_in.Given as goal

-- the row, if there is one, is among those that are left
abbrev pub invariant-loop-row : goal.invariant-loop-row
invariant-loop-row g l = named_in (rows_of l.table) l.text ≡ named_in (rows_of (drop l.row-index l.table)) l.text
