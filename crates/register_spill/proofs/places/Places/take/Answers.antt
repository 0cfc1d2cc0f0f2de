-- The first free register by the spots is the one that the code found.
use Rattle.std.proofs.Common.{◌∙◌, Option, sym, subst}
use Rattle.std.specs.Option.{MatchOption}
use Rattle.x86_instr.specs.declared.operand.Reg.{Reg}
use Rattle.register_spill.specs.Calls.{Evicts, TakesFree}
use Rattle.register_spill.proofs.FreeLemmas.{first_found, first_is, not_stack, takes_free}
use Rattle.register_spill.proofs.places.Places.take.Goals as goal

pub enter-requires-clause-free : goal.enter-requires-clause-free
enter-requires-clause-free c = (first_is c.args.self.now.spots c.args.pinned.bits c.in-Some.reg
    (first_found c.self.inside.spots.items c.self.inside.holders c.self.inside.uses.items c.self.invariant
    c.args.pinned.bits c.args.self.now c.first_free.result c.self.view_is c.first_free.ensures ∙ c.in-Some.is)).free

pub enter-requires-clause-not_stack : goal.enter-requires-clause-not_stack
enter-requires-clause-not_stack c = not_stack c.args.pinned.bits c.in-Some.reg
    (first_is c.args.self.now.spots c.args.pinned.bits c.in-Some.reg
    (first_found c.self.inside.spots.items c.self.inside.holders c.self.inside.uses.items c.self.invariant
    c.args.pinned.bits c.args.self.now c.first_free.result c.self.view_is c.first_free.ensures ∙ c.in-Some.is)).is_open

pub returns-in-Some-clause-taken : goal.returns-in-Some-clause-taken
returns-in-Some-clause-taken c =
    takes_free c.args.self.now c.enter.new.self c.args.value c.args.now c.args.pinned.bits c.in-Some.reg
    (first_found c.self.inside.spots.items c.self.inside.holders c.self.inside.uses.items c.self.invariant
    c.args.pinned.bits c.args.self.now c.first_free.result c.self.view_is c.first_free.ensures ∙ c.in-Some.is)
    c.enter.ensures

pub returns-in-Some-clause-open : goal.returns-in-Some-clause-open
returns-in-Some-clause-open c = (first_is c.args.self.now.spots c.args.pinned.bits c.in-Some.reg
    (first_found c.self.inside.spots.items c.self.inside.holders c.self.inside.uses.items c.self.invariant
    c.args.pinned.bits c.args.self.now c.first_free.result c.self.view_is c.first_free.ensures ∙ c.in-Some.is)).is_open

pub replace-requires-clause-none_free : goal.replace-requires-clause-none_free
replace-requires-clause-none_free c =
    first_found c.self.inside.spots.items c.self.inside.holders c.self.inside.uses.items c.self.invariant
    c.args.pinned.bits c.args.self.now c.first_free.result c.self.view_is c.first_free.ensures ∙ c.in_default.is

pub returns-clause-taken : goal.returns-clause-taken
returns-clause-taken c =
    let none = first_found c.self.inside.spots.items c.self.inside.holders c.self.inside.uses.items c.self.invariant
    c.args.pinned.bits c.args.self.now c.first_free.result c.self.view_is c.first_free.ensures ∙ c.in_default.is in
    subst (λ (o : Option Reg). MatchOption o
    (Evicts c.args.self.now c.replace.new.self c.args.value c.args.now c.args.pinned.bits c.replace.result)
    (TakesFree c.args.self.now c.replace.new.self c.args.value c.replace.result)) (sym none) c.replace.ensures.evicts
