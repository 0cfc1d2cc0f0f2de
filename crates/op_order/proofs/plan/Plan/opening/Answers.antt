-- The slots that were put are those of the opening plan, which is legal.
use Rattle.std.proofs.Common.{◌≡◌, map, zero-add, ap, length, arith, ◌∙◌, sym, subst}
use Rattle.std.proofs.lemmas.Grind.{common_steps}
use Rattle.std.proofs.lemmas.List.FromFn.{map-range_with_len_more, length-map-range_with_len}
use Rattle.std.specs.List.{range_with_len}
use Rattle.dependency_graph.proofs.OrderLemmas.{earlier}
use Rattle.op_order.specs.Plans.{opening_slot, opening_of}
use Rattle.op_order.specs.Legal.{IsLegal}
use Rattle.op_order.proofs.LegalLemmas.{opening_legal, has_template_at}
use Rattle.op_order.proofs.plan.Plan.opening.Goals as goal

pub loop-op-preserved : goal.loop-op-preserved
loop-op-preserved c =
    let more = map-range_with_len_more opening_slot 0 c.loop-op.op c.loop-op.op (zero-add c.loop-op.op) in
    record { so_far = rw more (grind (arith, common_steps)); room = omega (arith, c.push.ensures.capacity) }

pub invariant_of-result : goal.invariant_of-result
invariant_of-result c =
    let count = ap length c.loop-op.invariant.so_far ∙ length-map-range_with_len opening_slot 0 c.loop-op.op in
    (omega arith, omega arith, c.loop-op.invariant.room)

pub returns-clause-legal : goal.returns-clause-legal
unfolding opening_of
returns-clause-legal c =
    let program = c.args.program.now in
    let count = ap length c.loop-op.invariant.so_far ∙ length-map-range_with_len opening_slot 0 c.loop-op.op in
    let all : c.loop-op.op ≡ length program.ops =
    omega (arith, ap length c.ops.ensures.ops, c.loop-op-test.false, c.loop-op.auto.op-end) in
    let legal = opening_legal program (earlier program c.ops.ensures.accepted) (has_template_at program) in
    subst (IsLegal program) (sym (c.loop-op.invariant.so_far ∙ ap (λ n. map opening_slot (range_with_len 0 n)) all))
    legal
