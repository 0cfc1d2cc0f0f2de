-- The lines of one more slot, there or not.
use Rattle.std.proofs.Common.{◌+◌, ap, subst, sym}
use Rattle.equiv_validator.specs.Owned.{IsFirstOff}
use Rattle.equiv_validator.proofs.OwnedLines.{leaves_slot, off_here}
use Rattle.equiv_validator.proofs.realising.past_slots.Goals as goal

pub returns-in_default : goal.returns-in_default
returns-in_default c =
    subst (IsFirstOff c.args.program.now c.args.slots.now c.args.lines.now) (sym c.loop-slot.invariant.number)
    (off_here c.args.program.now c.args.lines.now c.loop-slot.left.now c.args.slots.now c.loop-slot.slot-index _
    c.loop-slot-test.true c.loop-slot.invariant.leaves (rw c.mnemonics-names.ensures.mnemonics at c.in_default.ensures))

pub loop-slot-preserved : goal.loop-slot-preserved
loop-slot-preserved c = record {
  number = ap (λ n. n + 1) c.loop-slot.invariant.number;
  leaves = leaves_slot c.args.program.now c.args.lines.now c.loop-slot.left.now c.in-Some.behind.now c.args.slots.now
      c.loop-slot.slot-index _ c.loop-slot-test.true c.loop-slot.invariant.leaves
      (rw c.mnemonics-names.ensures.mnemonics at c.in-Some.ensures);
}
