-- The arrays so far are in the memory.
use Rattle.std.proofs.Common.{◌≡◌}
use Rattle.x86_meaning.specs.StatedCells.{with_arrays}
use Rattle.x86_meaning.proofs.start.put_arrays.Given as goal

abbrev pub invariant-loop-param : goal.invariant-loop-param
invariant-loop-param l = l.cells ≡ with_arrays l.program.params l.inputs l.param l.initial.cells
