-- The three operands of an operation are those at the places 0, 1 and 2.
use Rattle.std.proofs.Common.{◌≡◌, map, slice_index_or, sym}
use Rattle.bounds.specs.Intervals.{operand_interval, op_intervals}
use Rattle.intervals.specs.Intervals.{full}
use Rattle.bounds.proofs.ranges.push_op.Goals as goal

pub returns : goal.returns
unfolding op_intervals
returns c =
    let ranges = map (operand_interval c.args.params.now c.args.list.now.items) c.args.op.now.args in
    let a : slice_index_or ranges 0 full ≡ c.argument-a.result =
    sym (rw (c.as_slice.ensures.value, c.items-args.ensures) at c.argument-a.ensures) in
    let b : slice_index_or ranges 1 full ≡ c.argument-b.result =
    sym (rw (c.as_slice-2.ensures.value, c.items-args.ensures) at c.argument-b.ensures) in
    let d : slice_index_or ranges 2 full ≡ c.argument-c.result =
    sym (rw (c.as_slice-3.ensures.value, c.items-args.ensures) at c.argument-c.ensures) in
    rw (a, b, d) c.push_results.ensures
