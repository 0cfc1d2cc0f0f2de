-- The loop over the mnemonics: the owned lines begin with those for the mnemonics so far.
use Rattle.std.proofs.Common.{take}
use Rattle.equiv_validator.specs.Owned.{Leaves, lines_by}
use Rattle.equiv_validator.proofs.realising.past_lines.Given as goal

abbrev pub invariant-loop-name : goal.invariant-loop-name
invariant-loop-name l = Leaves l.lines (lines_by l.op (take l.name-index l.names)) l.left
