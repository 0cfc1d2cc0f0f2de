-- The words so far are in the memory.
use Rattle.std.proofs.Common.{◌≡◌}
use Rattle.x86_meaning.specs.Stated.{array_address, array_cell}
use Rattle.x86_meaning.specs.StatedCells.{cells_from}
use Rattle.x86_meaning.proofs.start.put_array.Given as goal

abbrev pub invariant-loop-word : goal.invariant-loop-word
invariant-loop-word l = l.cells ≡ cells_from (array_address l.param) l.word
    (array_cell l.program.params l.inputs l.param) l.initial.cells
