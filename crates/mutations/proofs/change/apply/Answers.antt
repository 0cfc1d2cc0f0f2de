-- A mutation that fits leaves a legal plan, kind by kind.
use Rattle.std.proofs.Common.{ap, subst}
use Rattle.op_order.proofs.LegalLemmas.{legal_op, legal_ops}
use Rattle.mutations.specs.declared.mutation.Mutation.TheVariants.{Move, Template, Swap, Load, Chain}
use Rattle.mutations.specs.Mutations.{applied, Fits}
use Rattle.mutations.proofs.Applied.{move_within, legal_after}
use Rattle.mutations.proofs.change.apply.Goals as goal

pub move_slot-requires-clause-to : goal.move_slot-requires-clause-to
move_slot-requires-clause-to c =
    move_within c.args.program.now c.args.plan.now.slots c.in-Move.slot c.in-Move.to c.requires.legal
    (subst (Fits c.args.program.now c.args.plan.now.slots) c.in-Move.is c.requires.fits)

pub toggle_swap_at-requires-clause-op : goal.toggle_swap_at-requires-clause-op
unfolding Fits
toggle_swap_at-requires-clause-op c =
    legal_op c.args.program.now c.args.plan.now.slots c.requires.legal c.in-Swap.slot
    (subst (Fits c.args.program.now c.args.plan.now.slots) c.in-Swap.is c.requires.fits)

pub returns-in-Move-clause-legal : goal.returns-in-Move-clause-legal
unfolding applied
returns-in-Move-clause-legal c =
    legal_after c.args.program.now (Move c.in-Move.slot c.in-Move.to) c.args.plan.now.slots c.move_slot.new.self.slots
    c.requires.legal
    (subst (Fits c.args.program.now c.args.plan.now.slots) c.in-Move.is c.requires.fits)
    (ap (λ v. v.slots) c.move_slot.ensures)

pub returns-in-Template-clause-legal : goal.returns-in-Template-clause-legal
unfolding applied
returns-in-Template-clause-legal c =
    legal_after c.args.program.now (Template c.in-Template.slot c.in-Template.number) c.args.plan.now.slots
    c.set_template.new.plan.slots c.requires.legal
    (subst (Fits c.args.program.now c.args.plan.now.slots) c.in-Template.is c.requires.fits)
    (ap (λ v. v.slots) c.set_template.ensures)

pub returns-in-Swap-clause-legal : goal.returns-in-Swap-clause-legal
unfolding applied
returns-in-Swap-clause-legal c =
    legal_after c.args.program.now (Swap c.in-Swap.slot) c.args.plan.now.slots c.toggle_swap_at.new.plan.slots
    c.requires.legal
    (subst (Fits c.args.program.now c.args.plan.now.slots) c.in-Swap.is c.requires.fits)
    (ap (λ v. v.slots) c.toggle_swap_at.ensures)

pub returns-in-Load-clause-legal : goal.returns-in-Load-clause-legal
unfolding applied
returns-in-Load-clause-legal c =
    legal_after c.args.program.now (Load c.in-Load.slot) c.args.plan.now.slots c.toggle_load_at.new.plan.slots
    c.requires.legal
    (subst (Fits c.args.program.now c.args.plan.now.slots) c.in-Load.is c.requires.fits)
    (ap (λ v. v.slots) c.toggle_load_at.ensures)

pub set_chain-requires-clause-ops : goal.set_chain-requires-clause-ops
set_chain-requires-clause-ops c = legal_ops c.args.program.now c.args.plan.now.slots c.requires.legal

pub returns-in-Chain-clause-legal : goal.returns-in-Chain-clause-legal
unfolding applied
returns-in-Chain-clause-legal c =
    legal_after c.args.program.now (Chain c.in-Chain.slot c.in-Chain.number) c.args.plan.now.slots
    c.set_chain.new.plan.slots c.requires.legal
    (subst (Fits c.args.program.now c.args.plan.now.slots) c.in-Chain.is c.requires.fits)
    (ap (λ v. v.slots) c.set_chain.ensures)
