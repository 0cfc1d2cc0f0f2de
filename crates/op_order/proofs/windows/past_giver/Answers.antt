-- The last place of the definer of one operand.
use Rattle.std.proofs.Common.{sym, ◌∙◌, ap, inl, inr}
use Rattle.word_program.specs.declared.operation.Operand.{Operand}
use Rattle.dependency_graph.proofs.OrderLemmas.{once}
use Rattle.op_order.specs.Windows.{past_last, defines_operand}
use Rattle.op_order.proofs.LastPlace.{past_last-none}
use Rattle.op_order.proofs.Definers.{past_giver_is}
use Rattle.op_order.proofs.windows.past_giver.Goals as goal

pub returns-in-Value : goal.returns-in-Value
returns-in-Value c =
    let program = c.args.program.now in
    let slots = c.args.slots.now in
    c.past_slots_of.ensures
    ∙ past_giver_is program c.definer.result c.in-Value.value slots
    (λ other. once program c.definer.result other c.in-Value.value) c.definer.ensures.defines
    ∙ ap (λ (operand : Operand). past_last (λ slot. defines_operand program slot.op operand) slots) (sym c.in-Value.is)

pub returns-in-Literal : goal.returns-in-Literal
returns-in-Literal c =
    let program = c.args.program.now in
    let slots = c.args.slots.now in
    let none = sym (past_last-none slots) in
    elim c.in-Literal.is [
      | inl o ↦ none ∙ ap (λ (operand : Operand). past_last (λ slot. defines_operand program slot.op operand) slots)
          (sym o.1)
      | inr o ↦ none ∙ ap (λ (operand : Operand). past_last (λ slot. defines_operand program slot.op operand) slots)
          (sym o.2)
    ]
