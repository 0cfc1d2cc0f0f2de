-- What is due, and what is not.
use Rattle.std.proofs.Common.{refl, sym, ◌∙◌, ap, subst}
use Rattle.std.proofs.lemmas.List.{get_or_read}
use Rattle.word_program.specs.Program.{Source}
use Rattle.op_order.specs.Plans.{SlotsWithRoom}
use Rattle.op_order.specs.Legal.{IsLegal}
use Rattle.incumbent_board.specs.Views.{BoardView}
use Rattle.incumbent_board.specs.Calls.{IsDue}
use Rattle.incumbent_board.specs.Inside.{view_of, IsAwaited}
use Rattle.incumbent_board.proofs.Kept.{lane_there}
use Rattle.incumbent_board.proofs.Inside.{look_slots, look_ready}
use Rattle.incumbent_board.proofs.Settling.{made_is, due_is}
use Rattle.incumbent_board.proofs.board.Board.due.Goals as goal

pub plan_due-mutation-requires-clause-legal : goal.plan_due-mutation-requires-clause-legal
plan_due-mutation-requires-clause-legal c =
    let a = c.self.inside in
    let look = c.in-Some.ensures.0 in
    let is = subst (λ (v : BoardView). IsAwaited v c.args.lane c.args.offer.now look) (sym c.self.view_is)
    c.in-Some.ensures.2 in
    let slots = look_slots a c.args.lane look c.index.result.now c.self.invariant is.there c.index.ensures in
    let ready = look_ready a c.args.lane look c.index.result.now.plan.slots c.self.invariant is.there slots in
    subst (λ (p : Source). IsLegal p c.index.result.now.plan.slots) (sym c.deref.ensures) ready.legal

pub plan_due-mutation-requires-clause-room : goal.plan_due-mutation-requires-clause-room
plan_due-mutation-requires-clause-room c =
    let a = c.self.inside in
    let look = c.in-Some.ensures.0 in
    let is = subst (λ (v : BoardView). IsAwaited v c.args.lane c.args.offer.now look) (sym c.self.view_is)
    c.in-Some.ensures.2 in
    let slots = look_slots a c.args.lane look c.index.result.now c.self.invariant is.there c.index.ensures in
    let ready = look_ready a c.args.lane look c.index.result.now.plan.slots c.self.invariant is.there slots in
    ready.room

pub returns-then-not-same-clause-due : goal.returns-then-not-same-clause-due
returns-then-not-same-clause-due c look due =
    let a = c.self.inside in
    let is = subst (λ (v : BoardView). IsDue v c.args.lane c.args.offer.now look) (sym c.self.view_is) due in
    let slots = look_slots a c.args.lane look c.index.result.now c.self.invariant is.there c.index.ensures in
    let low = lane_there (view_of a) c.self.invariant.board c.args.lane look is.there in
    let made = made_is a c.args.lane c.args.offer.now.turn c.index-2.result.now look c.deref.result.now
    c.index.result.now.plan.slots c.plan_due-mutation.new.into.slots c.words.result c.plan_due-mutation.result
    c.deref.ensures slots (get_or_read a.seeds.items c.args.lane c.index-2.result.now low c.index-2.ensures 0) is.turn
    c.words.ensures c.plan_due-mutation.ensures.mutation c.plan_due-mutation.ensures.plan in
    let differs = c.if-not-same.ensures.1 (made.slots_are ∙ sym is.plan
    ∙ sym (ap (λ (p : SlotsWithRoom). p.slots) c.plan.ensures.plan)) in
    cc

pub returns-clause-due : goal.returns-clause-due
returns-clause-due c =
    let a = c.self.inside in
    let look = c.in-Some.ensures.0 in
    let is = subst (λ (v : BoardView). IsAwaited v c.args.lane c.args.offer.now look) (sym c.self.view_is)
    c.in-Some.ensures.2 in
    let slots = look_slots a c.args.lane look c.index.result.now c.self.invariant is.there c.index.ensures in
    let low = lane_there (view_of a) c.self.invariant.board c.args.lane look is.there in
    let made = made_is a c.args.lane c.args.offer.now.turn c.index-2.result.now look c.deref.result.now
    c.index.result.now.plan.slots c.plan_due-mutation.new.into.slots c.words.result c.plan_due-mutation.result
    c.deref.ensures slots (get_or_read a.seeds.items c.args.lane c.index-2.result.now low c.index-2.ensures 0) is.turn
    c.words.ensures c.plan_due-mutation.ensures.mutation c.plan_due-mutation.ensures.plan in
    let due = due_is a c.args.lane c.args.offer.now look c.plan_due-mutation.result
    c.plan_due-mutation.new.into.slots is made
    (c.if-not-same.ensures.0 refl ∙ ap (λ (p : SlotsWithRoom). p.slots) c.plan.ensures.plan) in
    rw (← c.self.view_is) (look, due, sym c.in-Some.ensures.1, made.mutation_is)
