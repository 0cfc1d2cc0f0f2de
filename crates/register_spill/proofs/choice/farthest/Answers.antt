-- One register more.
use Rattle.x86_instr.specs.declared.operand.Reg.TheVariants.{Rax}
use Rattle.register_spill.proofs.FarthestLemmas.{farthest_more, farthest_start}
use Rattle.register_spill.proofs.choice.farthest.Goals as goal

pub loop-reg-init : goal.loop-reg-init
loop-reg-init c = farthest_start c.args.holders.now c.args.uses.now c.args.now c.args.pinned.bits

pub loop-reg-preserved : goal.loop-reg-preserved
loop-reg-preserved c =
    let more = farthest_more c.args.holders.now c.args.uses.now c.args.now c.args.pinned.bits c.loop-reg.reg-index Rax
    c.loop-reg-test.true in
    let step = c.farther_of-best.ensures in let best = c.loop-reg.invariant in let here = c.value_in.ensures in cc
