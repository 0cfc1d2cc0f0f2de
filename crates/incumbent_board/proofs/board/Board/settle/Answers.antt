-- An offer that is due, and its entry.
use Rattle.std.proofs.Common.{◌≡◌, ◌≤◌, ◌<◌, refl, ◌∙◌, subst, suc, length, arith}
use Rattle.incumbent_board.specs.declared.board.Board.TheInside.{Inside}
use Rattle.incumbent_board.specs.Views.{BoardView}
use Rattle.incumbent_board.specs.Calls.{offered_cost, least_cost}
use Rattle.incumbent_board.specs.Inside.{view_of}
use Rattle.incumbent_board.proofs.Inside.{entries_within}
use Rattle.incumbent_board.proofs.Settling.{pushed, offered_left, accepted_taken, kept_taken}
use Rattle.incumbent_board.proofs.board.Board.settle.Goals as goal

pub enter-requires-clause-room : goal.enter-requires-clause-room
enter-requires-clause-room c =
    let left = offered_left c.self.inside c.args.self.now c.args.lane c.in-Some.due.seen c.cost-cost.result
    c.args.offer c.in-Some.ensures.due.0 c.in-Some.due.mutation (record {
      inside = c.self.invariant;
      view = c.self.view_is ∙ c.in-Some.ensures.same;
      due = c.in-Some.ensures.due.1;
      seen_is = c.in-Some.ensures.due.2;
      mutation_is = c.in-Some.ensures.due.3;
      cost_is = c.cost-cost.ensures.cost;
      checks = c.cost-cost.ensures.checks;
    }) in
    left.room

pub enter-requires-clause-lane : goal.enter-requires-clause-lane
enter-requires-clause-lane c =
    let left = offered_left c.self.inside c.args.self.now c.args.lane c.in-Some.due.seen c.cost-cost.result
    c.args.offer c.in-Some.ensures.due.0 c.in-Some.due.mutation (record {
      inside = c.self.invariant;
      view = c.self.view_is ∙ c.in-Some.ensures.same;
      due = c.in-Some.ensures.due.1;
      seen_is = c.in-Some.ensures.due.2;
      mutation_is = c.in-Some.ensures.due.3;
      cost_is = c.cost-cost.ensures.cost;
      checks = c.cost-cost.ensures.checks;
    }) in
    left.low

pub enter-requires-clause-turn : goal.enter-requires-clause-turn
enter-requires-clause-turn c =
    let left = offered_left c.self.inside c.args.self.now c.args.lane c.in-Some.due.seen c.cost-cost.result
    c.args.offer c.in-Some.ensures.due.0 c.in-Some.due.mutation (record {
      inside = c.self.invariant;
      view = c.self.view_is ∙ c.in-Some.ensures.same;
      due = c.in-Some.ensures.due.1;
      seen_is = c.in-Some.ensures.due.2;
      mutation_is = c.in-Some.ensures.due.3;
      cost_is = c.cost-cost.ensures.cost;
      checks = c.cost-cost.ensures.checks;
    }) in
    left.few

pub overflow_cast-number : goal.overflow_cast-number
overflow_cast-number c =
    let within = entries_within c.self.inside c.self.invariant in
    let few = c.self.invariant.board.limits.entries in
    omega (arith, within, few, c.len-number.ensures, pushed _ _ _ c.enter.ensures.entries)

pub invariant_of-self-2 : goal.invariant_of-self-2
invariant_of-self-2 c =
    let taken = accepted_taken c.self.inside _ c.args.self.now c.args.lane c.in-Some.due.seen c.cost-cost.result
    c.args.offer c.in-Some.ensures.due.0 c.in-Some.due.mutation c.len-number.result (record {
      inside = c.self.invariant;
      view = c.self.view_is ∙ c.in-Some.ensures.same;
      due = c.in-Some.ensures.due.1;
      seen_is = c.in-Some.ensures.due.2;
      mutation_is = c.in-Some.ensures.due.3;
      cost_is = c.cost-cost.ensures.cost;
      checks = c.cost-cost.ensures.checks;
    })
    (record {
      program = refl;
      seeds = refl;
      turns = refl;
      capacity = c.enter.ensures.capacity;
      scratch = refl;
      least = c.cost-cost.ensures.cost;
    }) c.enter.ensures.entries c.enter.ensures.lanes refl
    (omega (arith, c.len-number.ensures, pushed _ _ _ c.enter.ensures.entries)) c.args.offer.short c.args.offer.mark
    c.if-dearer.false in
    taken.inside

pub returns-clause-settled : goal.returns-clause-settled
returns-clause-settled c =
    let view = c.self.view_is ∙ c.in-Some.ensures.same in
    let b : Inside = record {
      program = c.self.inside.program;
      draw = c.self.inside.draw;
      seeds = c.self.inside.seeds;
      turns = c.self.inside.turns;
      opening = c.self.inside.opening;
      entries = c.enter.new.entries;
      lanes = c.enter.new.lanes;
      best = c.len-number.result;
      incumbent = c.args.offer.checked;
      least = c.cost-cost.result;
      scratch = c.self.inside.scratch;
    } in
    let taken = accepted_taken c.self.inside b c.args.self.now c.args.lane c.in-Some.due.seen c.cost-cost.result
    c.args.offer c.in-Some.ensures.due.0 c.in-Some.due.mutation c.len-number.result (record {
      inside = c.self.invariant;
      view = c.self.view_is ∙ c.in-Some.ensures.same;
      due = c.in-Some.ensures.due.1;
      seen_is = c.in-Some.ensures.due.2;
      mutation_is = c.in-Some.ensures.due.3;
      cost_is = c.cost-cost.ensures.cost;
      checks = c.cost-cost.ensures.checks;
    })
    (record {
      program = refl;
      seeds = refl;
      turns = refl;
      capacity = c.enter.ensures.capacity;
      scratch = refl;
      least = c.cost-cost.ensures.cost;
    }) c.enter.ensures.entries c.enter.ensures.lanes refl
    (omega (arith, c.len-number.ensures, pushed _ _ _ c.enter.ensures.entries)) c.args.offer.short c.args.offer.mark
    c.if-dearer.false in
    let cheap : offered_cost c.args.offer ≤ least_cost (view_of c.self.inside) =
    omega (arith, c.if-dearer.false, c.cost-cost.ensures.cost, c.self.invariant.least) in (
      c.in-Some.ensures.due.0,
      c.in-Some.ensures.due.1,
      subst (λ (v : BoardView). offered_cost c.args.offer ≤ least_cost v) view cheap,
      subst (λ (v : BoardView). c.len-number.result ≡ suc (length v.entries)) view
          (omega (arith, c.len-number.ensures, pushed _ _ _ c.enter.ensures.entries)),
      taken.view,
    )

pub returns-clause-event : goal.returns-clause-event
returns-clause-event c =
    let b : Inside = record {
      program = c.self.inside.program;
      draw = c.self.inside.draw;
      seeds = c.self.inside.seeds;
      turns = c.self.inside.turns;
      opening = c.self.inside.opening;
      entries = c.enter.new.entries;
      lanes = c.enter.new.lanes;
      best = c.len-number.result;
      incumbent = c.args.offer.checked;
      least = c.cost-cost.result;
      scratch = c.self.inside.scratch;
    } in
    let taken = accepted_taken c.self.inside b c.args.self.now c.args.lane c.in-Some.due.seen c.cost-cost.result
    c.args.offer c.in-Some.ensures.due.0 c.in-Some.due.mutation c.len-number.result (record {
      inside = c.self.invariant;
      view = c.self.view_is ∙ c.in-Some.ensures.same;
      due = c.in-Some.ensures.due.1;
      seen_is = c.in-Some.ensures.due.2;
      mutation_is = c.in-Some.ensures.due.3;
      cost_is = c.cost-cost.ensures.cost;
      checks = c.cost-cost.ensures.checks;
    })
    (record {
      program = refl;
      seeds = refl;
      turns = refl;
      capacity = c.enter.ensures.capacity;
      scratch = refl;
      least = c.cost-cost.ensures.cost;
    }) c.enter.ensures.entries c.enter.ensures.lanes refl
    (omega (arith, c.len-number.ensures, pushed _ _ _ c.enter.ensures.entries)) c.args.offer.short c.args.offer.mark
    c.if-dearer.false in
    taken.step

pub invariant_of-self : goal.invariant_of-self
invariant_of-self c =
    let taken = kept_taken c.self.inside _ c.args.self.now c.args.lane c.in-Some.due.seen c.cost-cost.result
    c.args.offer c.in-Some.ensures.due.0 c.in-Some.due.mutation (record {
      inside = c.self.invariant;
      view = c.self.view_is ∙ c.in-Some.ensures.same;
      due = c.in-Some.ensures.due.1;
      seen_is = c.in-Some.ensures.due.2;
      mutation_is = c.in-Some.ensures.due.3;
      cost_is = c.cost-cost.ensures.cost;
      checks = c.cost-cost.ensures.checks;
    })
    (record {
      program = refl;
      seeds = refl;
      turns = refl;
      capacity = c.enter.ensures.capacity;
      scratch = refl;
      least = c.self.invariant.least;
    }) c.enter.ensures.entries c.enter.ensures.lanes refl c.args.offer.short c.args.offer.mark c.if-dearer.true in
    taken.inside

pub returns-then-dearer-clause-settled : goal.returns-then-dearer-clause-settled
returns-then-dearer-clause-settled c =
    let view = c.self.view_is ∙ c.in-Some.ensures.same in
    let b : Inside = record {
      program = c.self.inside.program;
      draw = c.self.inside.draw;
      seeds = c.self.inside.seeds;
      turns = c.self.inside.turns;
      opening = c.self.inside.opening;
      entries = c.enter.new.entries;
      lanes = c.enter.new.lanes;
      best = c.self.inside.best;
      incumbent = c.self.inside.incumbent;
      least = c.self.inside.least;
      scratch = c.self.inside.scratch;
    } in
    let taken = kept_taken c.self.inside b c.args.self.now c.args.lane c.in-Some.due.seen c.cost-cost.result
    c.args.offer c.in-Some.ensures.due.0 c.in-Some.due.mutation (record {
      inside = c.self.invariant;
      view = c.self.view_is ∙ c.in-Some.ensures.same;
      due = c.in-Some.ensures.due.1;
      seen_is = c.in-Some.ensures.due.2;
      mutation_is = c.in-Some.ensures.due.3;
      cost_is = c.cost-cost.ensures.cost;
      checks = c.cost-cost.ensures.checks;
    })
    (record {
      program = refl;
      seeds = refl;
      turns = refl;
      capacity = c.enter.ensures.capacity;
      scratch = refl;
      least = c.self.invariant.least;
    }) c.enter.ensures.entries c.enter.ensures.lanes refl c.args.offer.short c.args.offer.mark c.if-dearer.true in
    let dear : least_cost (view_of c.self.inside) < offered_cost c.args.offer =
    omega (arith, c.if-dearer.true, c.cost-cost.ensures.cost, c.self.invariant.least) in (
      c.in-Some.ensures.due.0,
      c.in-Some.ensures.due.1,
      subst (λ (v : BoardView). least_cost v < offered_cost c.args.offer) view dear,
      subst (λ (v : BoardView). c.len-number.result ≡ suc (length v.entries)) view
          (omega (arith, c.len-number.ensures, pushed _ _ _ c.enter.ensures.entries)),
      taken.view,
    )

pub returns-then-dearer-clause-event : goal.returns-then-dearer-clause-event
returns-then-dearer-clause-event c =
    let b : Inside = record {
      program = c.self.inside.program;
      draw = c.self.inside.draw;
      seeds = c.self.inside.seeds;
      turns = c.self.inside.turns;
      opening = c.self.inside.opening;
      entries = c.enter.new.entries;
      lanes = c.enter.new.lanes;
      best = c.self.inside.best;
      incumbent = c.self.inside.incumbent;
      least = c.self.inside.least;
      scratch = c.self.inside.scratch;
    } in
    let taken = kept_taken c.self.inside b c.args.self.now c.args.lane c.in-Some.due.seen c.cost-cost.result
    c.args.offer c.in-Some.ensures.due.0 c.in-Some.due.mutation (record {
      inside = c.self.invariant;
      view = c.self.view_is ∙ c.in-Some.ensures.same;
      due = c.in-Some.ensures.due.1;
      seen_is = c.in-Some.ensures.due.2;
      mutation_is = c.in-Some.ensures.due.3;
      cost_is = c.cost-cost.ensures.cost;
      checks = c.cost-cost.ensures.checks;
    })
    (record {
      program = refl;
      seeds = refl;
      turns = refl;
      capacity = c.enter.ensures.capacity;
      scratch = refl;
      least = c.self.invariant.least;
    }) c.enter.ensures.entries c.enter.ensures.lanes refl c.args.offer.short c.args.offer.mark c.if-dearer.true in
    taken.step
