-- The lists after all slots are those after the slots that are left.
use Rattle.std.proofs.Common.{◌≡◌, drop, length}
use Rattle.register_spill.specs.Entering.{entered_all}
use Rattle.register_spill.proofs.uses.enter_all.Given as goal

abbrev pub invariant-loop-slot : goal.invariant-loop-slot
invariant-loop-slot l = record {
  number : l.at ≡ l.slot-index;
  lists : entered_all l.ops 0 l.initial.uses.items l.slots ≡ entered_all l.ops l.at l.uses.items
      (drop l.slot-index l.slots);
  size : length l.uses.items ≡ length l.initial.uses.items;
}
