-- The words so far are in the memory.
use Rattle.std.proofs.Common.{◌≡◌}
use Rattle.x86_meaning.specs.Stated.{filling}
use Rattle.x86_meaning.specs.StatedCells.{cells_from}
use Rattle.x86_meaning.proofs.start.put_stack.Given as goal

abbrev pub invariant-loop-word : goal.invariant-loop-word
invariant-loop-word l = l.cells ≡ cells_from l.first l.word (λ _. filling) l.initial.cells
