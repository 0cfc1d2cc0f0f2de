-- Where owned lines are left over.
use Rattle.std.proofs.Common.{List, length, subst, sym}
use Rattle.op_order.specs.declared.slot.Slot.{Slot}
use Rattle.op_order.specs.Realises.{DiffersFirst}
use Rattle.equiv_validator.proofs.OwnedLines.{left_over}
use Rattle.equiv_validator.proofs.realising.first_difference.Goals as goal

pub returns-in-Some : goal.returns-in-Some
returns-in-Some c =
    subst (λ (slots : List Slot). DiffersFirst c.args.program.now c.args.plan.now.slots c.args.listing.now
    (length slots)) (sym c.slots-slots.ensures.slots)
    (left_over c.args.program.now c.args.plan.now.slots c.args.listing.now c.in-Ok.left.now
    c.in-Some.field-0.behind.now _
    (rw (c.slots-slots.ensures.slots, c.lines.ensures.lines) at c.in-Ok.ensures) c.in-Some.ensures)
