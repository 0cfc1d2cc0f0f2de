-- What every program keeps of its operations, and the three promises from the list that is exact.
use Rattle.std.proofs.Common.{◌≡◌, ◌<◌, [], length, get_or, refl, sym, ◌∙◌, subst, arith, rules, add-one, drop-cons}
use Rattle.std.proofs.lemmas.Grind.{common_steps}
use Rattle.std.specs.List.{AllByRecursion}
use Rattle.word_program.specs.Accepted.{HasShift}
use Rattle.bounds.specs.Intervals.{intervals_of}
use Rattle.bounds.specs.Soundness.{HoldValues}
use Rattle.intervals.specs.Soundness.{IsOrdered}
use Rattle.bounds.proofs.Soundness.{intervals_hold, intervals_ordered, count_at}
use Rattle.bounds.proofs.ranges.intervals.Goals as goal

pub loop-op-init : goal.loop-op-init
loop-op-init c = rw c.new-list.ensures.items refl

pub loop-op-preserved : goal.loop-op-preserved
loop-op-preserved c =
    let program = c.args.program.now in
    let within = subst (λ ops. c.loop-op.op-index < length ops) c.ops-op-items.ensures.ops c.loop-op-test.true in
    let is : c.op-item.result ≡ get_or program.ops c.loop-op.op-index c.op-item.result = search rules in
    c.loop-op.invariant
    ∙ rw (
      c.in_ok-push_op.ensures,
      c.params-params.ensures.params,
      add-one,
      drop-cons program.ops c.loop-op.op-index c.op-item.result,
      ← is,
    ) refl

pub push_op-requires : goal.push_op-requires
push_op-requires c =
    let program = c.args.program.now in
    let within = subst (λ ops. c.loop-op.op-index < length ops) c.ops-op-items.ensures.ops c.loop-op-test.true in
    let counted = count_at program.params program.ops [] c.ops-op-items.ensures.accepted.ops c.loop-op.op-index
    c.op-item.result within in
    subst (λ op. HasShift op.kind) (sym c.op-item.is)
    (subst (λ ops. HasShift (get_or ops c.loop-op.op-index c.op-item.result).kind)
    (sym c.ops-op-items.ensures.ops) counted)

pub returns-clause-sound : goal.returns-clause-sound
returns-clause-sound c =
    let exact : c.loop-op.list.items ≡ intervals_of c.args.program.now = grind (arith, common_steps) in
    subst (HoldValues c.args.program.now) (sym exact)
    (intervals_hold c.args.program.now c.ops-op-items.ensures.accepted)

pub returns-clause-ordered : goal.returns-clause-ordered
returns-clause-ordered c =
    let exact : c.loop-op.list.items ≡ intervals_of c.args.program.now = grind (arith, common_steps) in
    subst (AllByRecursion IsOrdered) (sym exact) (intervals_ordered c.args.program.now c.ops-op-items.ensures.accepted)
