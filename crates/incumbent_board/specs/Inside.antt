-- How a board is kept; no part of a promise.
use Rattle.std.specs.Prelude.{◌≡◌, ℕ, ◌<◌, ◌≤◌, ◌+◌, ◌*◌, List, [], length, map, Option, Some, None, option_map}
use Rattle.std.specs.Prelude.{slice_get, slice_index_or, sum_by}
use Rattle.std.specs.Arc.{arc_value}
use Rattle.std.specs.List.{All}
use Rattle.std.specs.Vec.{vec_capacity}
use Rattle.op_order.specs.declared.slot.Slot.{Slot}
use Rattle.cost_table.specs.Costs.{cost_of}
use Rattle.journal_rules.specs.Legal.{turns_of}
use Rattle.incumbent_board.specs.declared.lanes.Lane.{Lane}
use Rattle.incumbent_board.specs.declared.board.Board.TheInside.{Inside}
use Rattle.incumbent_board.specs.declared.offer.Offer.{Offer}
use Rattle.incumbent_board.specs.Views.{Look, BoardView}
use Rattle.incumbent_board.specs.BoardOk.{IsBoard}

-- a lane that made no offer and has no look, with room for a plan
abbrev pub fresh : ℕ → Lane
fresh room = record { turn = 0; seen = None; plan = record { slots = []; room = room } }

abbrev pub lane_at : List Lane → ℕ → Lane
lane_at lanes lane = slice_index_or lanes lane (fresh 0)

-- a lane that looks at a plan, and one that settles its look
abbrev pub held : ℕ → List Slot → Lane → Lane
held seen slots lane = record {
  turn = lane.turn;
  seen = Some seen;
  plan = record { slots = slots; room = lane.plan.room };
}

abbrev pub ended : Lane → Lane
ended lane = record { turn = lane.turn + 1; seen = None; plan = lane.plan }

-- the look of a lane: its plan, where it saw some entries
abbrev pub look_of : Lane → Option Look
look_of lane = option_map (λ seen. record { seen = seen; slots = lane.plan.slots }) lane.seen

abbrev pub view_of : Inside → BoardView
view_of a = record {
  setup = record {
    program = arc_value a.program;
    draw = a.draw;
    seeds = a.seeds.items;
    turns = a.turns;
    opening = a.opening;
  };
  entries = a.entries.items;
  looks = map look_of a.lanes.items;
  best = a.best;
  incumbent = a.incumbent;
}

-- lanes count the entries that they made, and all have room for the plan of a look
pub record AreLanes (ops turns entries : ℕ) (lanes : List Lane) : Type 0 where
  pub within : All (λ l. l.turn ≤ turns) lanes
  pub counted : sum_by (λ l. l.turn) lanes ≡ entries
  pub rooms : All (λ l. ops ≤ l.plan.room) lanes

pub record IsInside (a : Inside) : Type 0 where
  pub board : IsBoard (view_of a)
  -- there is room for every entry that may come
  pub room : length a.seeds.items * a.turns ≤ vec_capacity a.entries
  pub turns : (lane : ℕ) → lane < length a.lanes.items
      → (lane_at a.lanes.items lane).turn ≡ turns_of lane a.entries.items
  pub lanes : AreLanes (length (arc_value a.program).ops) a.turns (length a.entries.items) a.lanes.items
  pub least : a.least ≡ cost_of a.incumbent.listing.lines
  pub scratch : length (arc_value a.program).ops ≤ a.scratch.room

-- the offer is for this look, but for its plan, which was not compared yet
pub record IsAwaited (b : BoardView) (at : ℕ) (offer : Offer) (look : Look) : Type 0 where
  pub there : slice_get b.looks at ≡ Some (Some look)
  pub lane : offer.lane ≡ at
  pub turn : offer.turn ≡ turns_of at b.entries
  pub program : offer.checked.program ≡ b.setup.program
