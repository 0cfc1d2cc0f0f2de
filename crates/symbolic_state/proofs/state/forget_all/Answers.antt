-- Array by array, the words are forgotten.
use Rattle.std.proofs.Common.{◌<◌, length, arith}
use Rattle.std.proofs.lemmas.List.Edits.{map_over_more}
use Rattle.symbolic_state.specs.Cells.{forgotten}
use Rattle.symbolic_state.proofs.state.forget_all.Goals as goal

pub loop-array-preserved : goal.loop-array-preserved
loop-array-preserved c = let lt : c.loop-array.array-index < length c.args.arrays.now = omega arith in
    rw (c.forget.ensures, ← c.array-item.is) (map_over_more forgotten _ _ _ _ lt c.loop-array.invariant c.array-item.is)
