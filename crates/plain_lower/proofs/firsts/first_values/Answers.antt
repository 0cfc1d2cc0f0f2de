-- The list, when all operations are behind.
use Rattle.std.proofs.Common.{arith}
use Rattle.plain_lower.proofs.FirstValues.{all_firsts}
use Rattle.plain_lower.proofs.firsts.first_values.Goals as goal

pub returns : goal.returns
returns c =
    all_firsts c.args.program.now c.ops-ops.result.now c.ops-ops.ensures.ops c.loop-op.firsts.items c.loop-op.op-index
    c.loop-op.invariant.0 (omega (arith, c.loop-op.auto.op-index-end)) (omega (arith, c.loop-op-test.false))
