-- The intervals so far, and those of the operations that are left behind them.
use Rattle.std.proofs.Common.{◌≡◌, ◌++◌, drop}
use Rattle.std.specs.Prelude.{fold}
use Rattle.bounds.specs.Intervals.{op_intervals, intervals_of}
use Rattle.bounds.proofs.ranges.intervals.Given as goal

abbrev pub invariant-loop-op : goal.invariant-loop-op
invariant-loop-op l = intervals_of l.program ≡ fold (λ is op. is ++ op_intervals l.program.params is op) l.list.items
    (drop l.op-index l.program.ops)
