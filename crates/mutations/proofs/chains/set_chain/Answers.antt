-- The chain is set where the operation is an `addcarryx`.
use Rattle.std.proofs.Common.{refl, sym, ap}
use Rattle.op_order.specs.Plans.{opening_slot, op_at}
use Rattle.mutations.proofs.Marking.{adds_is, chain_set, no_chain, ops_low}
use Rattle.mutations.proofs.chains.set_chain.Goals as goal

pub returns-then-is_add_carry : goal.returns-then-is_add_carry
returns-then-is_add_carry c =
    let p = c.args.program.now in
    let op = op_at c.slots.result.now c.args.slot in
    let same = ap (λ slots. op_at slots c.args.slot) (sym c.slots.ensures.slots) in
    let there = c.requires.ops c.args.slot (opening_slot 0) c.requires.slot in
    rw (
      c.set_marked.ensures,
      chain_set p c.args.plan.now.slots c.args.slot op c.args.number c.chain_marks-marks.result
          same (adds_is p c.ops.result.now op c.index-ops-op.result _ _ c.ops.ensures.ops
          (rw (c.ops.ensures.ops, c.slots.ensures.slots) there) c.is_add_carry.ensures c.if-is_add_carry.true)
          c.chain_marks-marks.ensures (ops_low p c.args.plan.now.slots c.ops.ensures.accepted c.requires.ops),
    ) refl

pub returns-else-is_add_carry : goal.returns-else-is_add_carry
returns-else-is_add_carry c =
    let p = c.args.program.now in
    let op = op_at c.slots.result.now c.args.slot in
    let same = ap (λ slots. op_at slots c.args.slot) (sym c.slots.ensures.slots) in
    let there = c.requires.ops c.args.slot (opening_slot 0) c.requires.slot in
    let stays = no_chain p c.args.plan.now.slots c.args.slot op c.args.number same
    (adds_is p c.ops.result.now op c.index-ops-op.result _ _ c.ops.ensures.ops
    (rw (c.ops.ensures.ops, c.slots.ensures.slots) there) c.is_add_carry.ensures c.if-is_add_carry.false) in
    ap (λ slots. record { slots = slots; room = c.args.plan.now.room }) stays
