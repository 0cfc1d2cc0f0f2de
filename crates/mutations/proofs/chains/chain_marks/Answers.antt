-- The walk goes on by one operation.
use Rattle.std.proofs.Common.{◌<◌, length, ◌∙◌, ap, arith, rules}
use Rattle.mutations.specs.Chains.{takes_carry}
use Rattle.mutations.proofs.Marking.{walk_begins, walk_passes, walk_takes, walk_ends, takes_is, value_low, next_value}
use Rattle.mutations.proofs.chains.chain_marks.Goals as goal
use Rattle.mutations.proofs.chains.chain_marks.Goals.{then-takes_carry, else-takes_carry}

pub loop-op-init : goal.loop-op-init
loop-op-init c =
    let limit = c.ops-ops.ensures.accepted.ops_limit in
    let low = c.requires in
    walk_begins c.args.program.now c.args.first _ _ c.no_marks-marks.result (search rules) c.no_marks-marks.ensures
    (omega arith) (search rules) c.first_value-value.ensures.first

pub overflow_add-carry-then-takes_carry : goal.overflow_add-carry-then-takes_carry
overflow_add-carry-then-takes_carry c =
    let low = value_low c.args.program.now c.loop-op.value c.loop-op.op c.ops-ops.ensures.accepted
    c.loop-op.invariant.value_is in
    omega arith

pub overflow_cast-value : goal.overflow_cast-value
overflow_cast-value c =
    let next = next_value c.args.program.now c.ops-ops.result.now c.loop-op.value c.loop-op.op
    c.index-ops-op-in-loop-op.result c.items.result.now c.ops-ops.ensures.accepted c.ops-ops.ensures.ops
    c.loop-op-test.true c.loop-op.invariant.value_is c.items.ensures in
    let low = next.low in
    omega arith

pub overflow_add-value : goal.overflow_add-value
overflow_add-value c =
    let next = next_value c.args.program.now c.ops-ops.result.now c.loop-op.value c.loop-op.op
    c.index-ops-op-in-loop-op.result c.items.result.now c.ops-ops.ensures.accepted c.ops-ops.ensures.ops
    c.loop-op-test.true c.loop-op.invariant.value_is c.items.ensures in
    let low = next.low in
    omega arith

pub loop-op-preserved : goal.loop-op-preserved
loop-op-preserved c =
    let next = next_value c.args.program.now c.ops-ops.result.now c.loop-op.value c.loop-op.op
    c.index-ops-op-in-loop-op.result c.items.result.now c.ops-ops.ensures.accepted c.ops-ops.ensures.ops
    c.loop-op-test.true c.loop-op.invariant.value_is c.items.ensures in
    let limit = c.ops-ops.ensures.accepted.ops_limit in
    let there = c.loop-op-test.true in
    let same = c.ops-ops.ensures.ops in
    let low : c.loop-op.op < length c.args.program.now.ops = rw (← same) there in
    let told = c.takes_carry.ensures ∙ ap (takes_carry c.loop-op.carry) c.index-ops-op.is in
    elim c.if-takes_carry.branch [
      | then-takes_carry w ↦ rw (w.marks-is, w.carry-is) (walk_takes c.args.program.now c.args.first c.loop-op.marks
          c.loop-op.carry c.loop-op.value c.loop-op.op _ c.loop-op.invariant low (omega arith)
          (takes_is c.args.program.now c.ops-ops.result.now c.loop-op.carry c.loop-op.op
          c.index-ops-op.result _ _ same there told w.if-takes_carry.true) next.is)
      | else-takes_carry w ↦ rw (w.marks-is, w.carry-is) (walk_passes c.args.program.now c.args.first c.loop-op.marks
          c.loop-op.carry c.loop-op.value c.loop-op.op _ c.loop-op.invariant
          (takes_is c.args.program.now c.ops-ops.result.now c.loop-op.carry c.loop-op.op
          c.index-ops-op.result _ _ same there told w.if-takes_carry.false) next.is)
    ]

pub returns : goal.returns
returns c =
    walk_ends c.args.program.now c.args.first c.loop-op.marks c.loop-op.carry c.loop-op.value c.loop-op.op
    c.loop-op.invariant (rw (← c.ops-ops.ensures.ops) c.loop-op-test.false)
