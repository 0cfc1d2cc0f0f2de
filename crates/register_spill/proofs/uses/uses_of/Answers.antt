-- The lists are the uses.
use Rattle.std.proofs.Common.{◌∙◌, ◌<◌, ℕ, ap, sym, subst, List, length, []}
use Rattle.std.specs.List.{All}
use Rattle.std.proofs.lemmas.List.{length-replicate}
use Rattle.word_program.specs.declared.operation.Op.{Op}
use Rattle.word_program.specs.Values.{targets_of}
use Rattle.op_order.specs.declared.slot.Slot.{Slot}
use Rattle.op_order.proofs.LegalLemmas.{legal_ops}
use Rattle.register_spill.specs.Entering.{AreOpsWithin}
use Rattle.register_spill.proofs.UseLemmas.{ops_within, uses_are}
use Rattle.register_spill.proofs.uses.uses_of.Goals as goal

pub enter_all-requires-clause-ops : goal.enter_all-requires-clause-ops
enter_all-requires-clause-ops c =
    let count = sym (ap length c.in_ok-uses.ensures ∙ length-replicate c.values.result [] ∙ c.values.ensures) in
    subst (λ (n : ℕ). AreOpsWithin n c.ops.result.now) count
    (subst (λ (ops : List Op). AreOpsWithin (length (targets_of c.args.program.now.ops)) ops) (sym c.ops.ensures.ops)
    (ops_within c.args.program.now c.ops.ensures.accepted))

pub enter_all-requires-clause-slots : goal.enter_all-requires-clause-slots
enter_all-requires-clause-slots c =
    subst (λ (ops : List Op). All (λ slot. slot.op < length ops) c.slots.result.now) (sym c.ops.ensures.ops)
    (subst (λ (slots : List Slot). All (λ slot. slot.op < length c.args.program.now.ops) slots)
    (sym c.slots.ensures.slots)
    (legal_ops c.args.program.now c.args.plan.now.slots c.requires))

pub returns : goal.returns
returns c =
    let all = uses_are c.args.program.now c.args.plan.now.slots c.values.result c.values.ensures in
    let is = c.in_ok-enter_all.ensures in
    let ops = c.ops.ensures.ops in
    let slots = c.slots.ensures.slots in
    let empty = c.in_ok-uses.ensures in
    record { uses = cc }
