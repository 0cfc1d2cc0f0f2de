-- The first place of a user, from the graph of the program.
use Rattle.std.proofs.Common.{◌+◌, ◌-◌, ℕ, sym, ap, ◌∙◌}
use Rattle.std.specs.List.{position}
use Rattle.dependency_graph.specs.Needs.{first_value, is_needed, reads_value_in}
use Rattle.op_order.specs.declared.slot.Slot.{Slot}
use Rattle.op_order.proofs.LastPlace.{first_place, no_place}
use Rattle.op_order.proofs.windows.high.Goals as goal

pub returns-in-Some : goal.returns-in-Some
unfolding is_needed
returns-in-Some c =
    let program = c.args.program.now in
    let op = c.args.op in
    let slots = c.args.slots.now in
    let first = ap (λ (k : ℕ). position (λ (slot : Slot). reads_value_in program slot.op k c.first_value-end.result)
    slots) c.first_value-first.ensures.first in
    let end = ap (λ (k : ℕ). position (λ (slot : Slot). reads_value_in program slot.op (first_value program op) k)
    slots) c.first_value-end.ensures.first in
    let found = sym (c.first_reader.ensures ∙ first ∙ end) ∙ c.in-Some.is in
    c.saturating_sub.ensures ∙ ap (λ (k : ℕ). k - 1)
    (sym (first_place (λ (slot : Slot). reads_value_in program slot.op (first_value program op)
    (first_value program (op + 1))) slots c.in-Some.place found))

pub returns-in-None : goal.returns-in-None
unfolding is_needed
returns-in-None c =
    let program = c.args.program.now in
    let op = c.args.op in
    let slots = c.args.slots.now in
    let first = ap (λ (k : ℕ). position (λ (slot : Slot). reads_value_in program slot.op k c.first_value-end.result)
    slots) c.first_value-first.ensures.first in
    let end = ap (λ (k : ℕ). position (λ (slot : Slot). reads_value_in program slot.op (first_value program op) k)
    slots) c.first_value-end.ensures.first in
    let found = sym (c.first_reader.ensures ∙ first ∙ end) ∙ c.in-None.is in
    c.saturating_sub-in-None.ensures ∙ ap (λ (k : ℕ). k - 1)
    (sym (no_place (λ (slot : Slot). reads_value_in program slot.op (first_value program op)
    (first_value program (op + 1))) slots found))
