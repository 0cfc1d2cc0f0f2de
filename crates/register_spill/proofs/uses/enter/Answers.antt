-- After an operand, the lists are as the operands that are left want them.
use Rattle.register_spill.proofs.UseLemmas.{enter_kept}
use Rattle.register_spill.proofs.uses.enter.Goals as goal

pub loop-operand-preserved : goal.loop-operand-preserved
loop-operand-preserved c =
    let before = c.loop-operand.invariant in
    let k = enter_kept c.args.at c.args.uses.now.items c.loop-operand.uses.items c.args.operands.now
    c.loop-operand.operand-index _ _ c.enter_one.new.uses.items c.loop-operand-test.true
    (record { lists = before.lists; count = before.count; operands = before.operands })
    c.in_ok-enter_one.ensures in
    record { lists = k.lists; count = k.count; operands = k.operands }
