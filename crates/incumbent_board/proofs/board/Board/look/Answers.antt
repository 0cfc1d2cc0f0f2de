-- A look keeps the board.
use Rattle.std.proofs.Common.{◌<◌, ◌≤◌, refl, sym, ap, subst, arith, length}
use Rattle.std.proofs.lemmas.List.{get_or_read}
use Rattle.journal_rules.specs.Legal.{turns_of}
use Rattle.std.specs.Arc.{arc_value}
use Rattle.journal_rules.specs.Machine as machine
use Rattle.incumbent_board.specs.Views.{BoardView, machine_of}
use Rattle.incumbent_board.specs.BoardOk.{IsBoard}
use Rattle.incumbent_board.specs.Inside.{view_of}
use Rattle.op_order.specs.Plans.{SlotsWithRoom}
use Rattle.incumbent_board.proofs.Kept.{looked_is_board, look_step, no_look_step}
use Rattle.incumbent_board.proofs.Inside.{entries_within, inside_looked, looked_view, may_look}
use Rattle.incumbent_board.proofs.Inside.{turn_read, sight_is, plan_fits, lane_fits}
use Rattle.incumbent_board.proofs.board.Board.look.Goals as goal

pub overflow_cast-seen : goal.overflow_cast-seen
overflow_cast-seen c =
    let within = entries_within c.self.inside c.self.invariant in
    let few = c.self.invariant.board.limits.entries in
    omega (arith, within, few, c.len-seen.ensures)

pub invariant_of-self : goal.invariant_of-self
invariant_of-self c =
    let a = c.self.inside in
    let may = may_look a c.args.self.now c.args.lane c.index.result.now c.self.invariant c.self.view_is c.requires.lane
    c.index.ensures c.if-self-turn.false in
    let view = looked_view a c.hold.new.lanes.items c.args.lane c.len-seen.result c.plan-plan.result.now.slots
    c.hold.ensures (omega (arith, c.len-seen.ensures)) (ap (λ (p : SlotsWithRoom). p.slots) c.plan-plan.ensures.plan) in
    inside_looked a _ c.args.lane c.len-seen.result c.plan-plan.result.now.slots c.self.invariant
    (record {
      program = refl;
      seeds = refl;
      turns = refl;
      capacity = omega arith;
      scratch = refl;
      least = c.self.invariant.least;
    }) may.low
    (subst IsBoard (sym view) (looked_is_board (view_of a) c.args.lane c.self.invariant.board may.seeds may.left))
    refl c.hold.ensures

pub returns-clause-board : goal.returns-clause-board
returns-clause-board c =
    rw (← c.self.view_is) (looked_view c.self.inside c.hold.new.lanes.items c.args.lane c.len-seen.result
    c.plan-plan.result.now.slots c.hold.ensures (omega (arith, c.len-seen.ensures))
    (ap (λ (p : SlotsWithRoom). p.slots) c.plan-plan.ensures.plan))

pub returns-clause-event : goal.returns-clause-event
returns-clause-event c =
    let a = c.self.inside in
    let may = may_look a c.args.self.now c.args.lane c.index.result.now c.self.invariant c.self.view_is c.requires.lane
    c.index.ensures c.if-self-turn.false in
    let view = looked_view a c.hold.new.lanes.items c.args.lane c.len-seen.result c.plan-plan.result.now.slots
    c.hold.ensures (omega (arith, c.len-seen.ensures)) (ap (λ (p : SlotsWithRoom). p.slots) c.plan-plan.ensures.plan) in
    rw (← c.self.view_is) (subst (λ (v : BoardView). machine.Step (view_of a).setup (machine_of (view_of a))
    (machine.Look c.args.lane) (machine_of v)) (sym view) (look_step (view_of a) c.args.lane may.seeds may.left))

pub returns-then-self-turn-clause-sight : goal.returns-then-self-turn-clause-sight
returns-then-self-turn-clause-sight c =
    let turn = turn_read c.self.inside c.args.self.now c.args.lane c.index.result.now c.self.invariant c.self.view_is
    c.requires.lane c.index.ensures in
    let made : c.self.inside.turns ≤ turns_of c.args.lane c.args.self.now.entries =
    omega (arith, turn, c.if-self-turn.true) in
    subst (λ (v : BoardView). v.setup.turns ≤ turns_of c.args.lane c.args.self.now.entries) c.self.view_is made

pub returns-then-self-turn-clause-event : goal.returns-then-self-turn-clause-event
returns-then-self-turn-clause-event c =
    let turn = turn_read c.self.inside c.args.self.now c.args.lane c.index.result.now c.self.invariant c.self.view_is
    c.requires.lane c.index.ensures in
    let made : c.self.inside.turns ≤ turns_of c.args.lane c.args.self.now.entries =
    omega (arith, turn, c.if-self-turn.true) in
    no_look_step c.args.self.now c.args.lane c.requires.lane (subst (λ (v : BoardView). v.setup.turns
    ≤ turns_of c.args.lane c.args.self.now.entries) c.self.view_is made)

pub copy_into-requires : goal.copy_into-requires
copy_into-requires c =
    let fits = plan_fits c.self.inside c.self.invariant in
    let room : length (arc_value c.self.inside.program).ops ≤ c.args.into.now.room =
    subst (λ (v : BoardView). length v.setup.program.ops ≤ c.args.into.now.room) (sym c.self.view_is) c.requires.room in
    let plan = ap (λ (p : SlotsWithRoom). length p.slots) c.plan-plan.ensures.plan in
    omega (arith, fits, room, plan)

pub hold-requires-clause-room : goal.hold-requires-clause-room
hold-requires-clause-room c =
    let fits = plan_fits c.self.inside c.self.invariant in
    let low : c.args.lane < length c.self.inside.seeds.items =
    subst (λ (v : BoardView). c.args.lane < length v.setup.seeds) (sym c.self.view_is) c.requires.lane in
    let room = lane_fits c.self.inside c.args.lane c.self.invariant low in
    let plan = ap (λ (p : SlotsWithRoom). length p.slots) c.plan-plan.ensures.plan in
    omega (arith, fits, room, plan)

pub returns-clause-sight : goal.returns-clause-sight
returns-clause-sight c =
    let low : c.args.lane < length c.self.inside.seeds.items =
    subst (λ (v : BoardView). c.args.lane < length v.setup.seeds) (sym c.self.view_is) c.requires.lane in
    let turn = turn_read c.self.inside c.args.self.now c.args.lane c.index.result.now c.self.invariant c.self.view_is
    c.requires.lane c.index.ensures in
    let left : turns_of c.args.lane c.args.self.now.entries < c.self.inside.turns =
    omega (arith, turn, c.if-self-turn.false) in (
      subst (λ (v : BoardView). turns_of c.args.lane c.args.self.now.entries < v.setup.turns) c.self.view_is left,
      sight_is c.self.inside c.args.self.now c.args.lane c.index.result.now.turn c.len-seen.result
          c.index-2.result.now c.self.view_is turn (omega (arith, c.len-seen.ensures))
          (get_or_read c.self.inside.seeds.items c.args.lane c.index-2.result.now low c.index-2.ensures 0),
    )
