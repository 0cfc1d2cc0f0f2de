-- After a slot, the lists are as the slots that are left want them.
use Rattle.std.proofs.Common.{◌∙◌, ap, arith, length}
use Rattle.op_order.specs.Plans.{opening_slot}
use Rattle.register_spill.specs.Entering.{entered}
use Rattle.register_spill.proofs.UseLemmas.{enter_all_kept, entered_count, args_at}
use Rattle.register_spill.proofs.uses.enter_all.Goals as goal

pub loop-slot-preserved : goal.loop-slot-preserved
loop-slot-preserved c =
    let before = c.loop-slot.invariant in
    let is = c.in_ok-enter.ensures in
    record {
      number = omega (arith, before.number);
      lists = enter_all_kept c.args.ops.now c.loop-slot.at c.loop-slot.uses.items c.args.slots.now
          c.loop-slot.slot-index (opening_slot 0) _ c.enter.new.uses.items c.loop-slot-test.true before.lists
          (is ∙ ap (entered c.loop-slot.at c.loop-slot.uses.items) (c.items.ensures ∙ args_at c.args.ops.now _ _
          (c.requires.slots c.loop-slot.slot-index (opening_slot 0) c.loop-slot-test.true)));
      size = ap length is ∙ entered_count c.items.result.now c.loop-slot.at c.loop-slot.uses.items ∙ before.size;
    }
