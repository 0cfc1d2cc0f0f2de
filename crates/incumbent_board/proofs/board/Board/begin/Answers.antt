-- The board that begins.
use Rattle.std.proofs.Common.{refl, ap}
use Rattle.op_order.specs.Plans.{SlotsWithRoom}
use Rattle.cost_table.specs.Costs.{cost_of}
use Rattle.journal_rules.specs.Numbers.{Setup}
use Rattle.incumbent_board.proofs.Kept.{begun_is_board}
use Rattle.incumbent_board.proofs.Starting.{begun_view, begun_inside}
use Rattle.std.specs.Arc.{arc_value}
use Rattle.incumbent_board.proofs.board.Board.begin.Goals as goal

pub invariant_of-result : goal.invariant_of-result
invariant_of-result c =
    let setup : Setup = record {
      program = arc_value c.args.program;
      draw = c.args.draw;
      seeds = c.args.seeds.now;
      turns = c.args.turns;
      opening = cost_of c.args.opening.listing.lines;
    } in
    let view = begun_view (arc_value c.args.program) c.args.draw c.args.seeds.now c.in_ok-kept.kept.items c.args.turns
    (cost_of c.args.opening.listing.lines) c.cost-least.result c.in_ok-entries.entries.items c.in_ok-lanes.lanes.items
    c.slots_of-slots.result c.args.opening c.in_ok-kept.ensures c.cost-least.ensures c.in_ok-entries.ensures.items
    c.in_ok-lanes.ensures in
    begun_inside _ setup c.args.opening c.slots_of-slots.result view c.in_ok-lanes.ensures c.slots_of-slots.ensures
    (ap (λ (p : SlotsWithRoom). p.room) c.in_ok-scratch.ensures) c.in_ok-entries.ensures.room c.cost-least.ensures
    (begun_is_board setup c.args.opening (record {
      some = c.requires.some;
      lanes = c.requires.lanes;
      turns = c.requires.turns;
      entries = c.requires.entries;
    }) c.short.ensures.checks c.short.ensures.short c.requires.program c.requires.plan refl)

pub returns : goal.returns
returns c =
    begun_view (arc_value c.args.program) c.args.draw c.args.seeds.now c.in_ok-kept.kept.items c.args.turns
    (cost_of c.args.opening.listing.lines) c.cost-least.result c.in_ok-entries.entries.items c.in_ok-lanes.lanes.items
    c.slots_of-slots.result c.args.opening c.in_ok-kept.ensures c.cost-least.ensures c.in_ok-entries.ensures.items
    c.in_ok-lanes.ensures
