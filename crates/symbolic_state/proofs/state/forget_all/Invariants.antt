-- The arrays so far are forgotten.
use Rattle.std.proofs.Common.{◌≡◌, ◌++◌, map, take, drop}
use Rattle.symbolic_state.specs.Cells.{forgotten}
use Rattle.symbolic_state.proofs.state.forget_all.Given as goal

abbrev pub invariant-loop-array : goal.invariant-loop-array
invariant-loop-array l =
    l.arrays ≡ map forgotten (take l.array-index l.initial.arrays) ++ drop l.array-index l.initial.arrays
