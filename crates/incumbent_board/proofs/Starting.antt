-- A board that begins.
use Rattle.std.proofs.Common.{◌≡◌, ℕ, ◌*◌, ◌≤◌, List, [], length, map, replicate, sym, ap, subst, ◌∙◌, arith}
use Rattle.std.specs.Prelude.{Option}
use Rattle.std.specs.Arc.{arc_value}
use Rattle.std.specs.Vec.{vec_capacity}
use Rattle.word_program.specs.Program.{Source}
use Rattle.cost_table.specs.Costs.{cost_of}
use Rattle.mutations.specs.declared.mutation.Draw.{Draw}
use Rattle.equiv_validator.specs.Kept.{CheckedListing}
use Rattle.journal_rules.specs.declared.journal.Entry.{Entry}
use Rattle.journal_rules.specs.Numbers.{Setup}
use Rattle.incumbent_board.specs.declared.lanes.Lane.{Lane}
use Rattle.incumbent_board.specs.declared.board.Board.TheInside.{Inside}
use Rattle.incumbent_board.specs.Views.{Look, BoardView}
use Rattle.incumbent_board.specs.BoardOk.{IsBoard}
use Rattle.incumbent_board.specs.Calls.{begun}
use Rattle.incumbent_board.specs.Inside.{fresh, look_of, view_of, AreLanes, IsInside}
use Rattle.incumbent_board.proofs.Stored.{fresh_looks, fresh_lanes, fresh_turns}
use Rattle.incumbent_board.proofs.Inside.{has_turns}

-- a board whose incumbent is the opening
abbrev pub board_of : Source → Draw → List ℕ → ℕ → ℕ → List Entry → List (Option Look) → CheckedListing → BoardView
board_of program draw seeds turns opening entries looks incumbent = record {
  setup = record { program = program; draw = draw; seeds = seeds; turns = turns; opening = opening };
  entries = entries;
  looks = looks;
  best = 0;
  incumbent = incumbent;
}

pub begun_view : (program : Source) (draw : Draw) (seeds kept : List ℕ) (turns opening cost : ℕ) (entries : List Entry)
    (lanes : List Lane) (room : ℕ) (incumbent : CheckedListing) → kept ≡ seeds → cost ≡ opening → entries ≡ []
    → lanes ≡ replicate (length seeds) (fresh room)
    → board_of program draw kept turns cost entries (map look_of lanes) incumbent
    ≡ begun (record { program = program; draw = draw; seeds = seeds; turns = turns; opening = opening }) incumbent
begun_view program draw seeds kept turns opening cost entries lanes room incumbent same costs none are =
    ap (λ s. board_of program draw s turns cost entries (map look_of lanes) incumbent) same
    ∙ ap (λ c. board_of program draw seeds turns c entries (map look_of lanes) incumbent) costs
    ∙ ap (λ es. board_of program draw seeds turns opening es (map look_of lanes) incumbent) none
    ∙ ap (λ ls. board_of program draw seeds turns opening [] ls incumbent)
    (ap (map look_of) are ∙ fresh_looks seeds room)

pub begun_inside : (b : Inside) (setup : Setup) (opening : CheckedListing) (room : ℕ)
    → view_of b ≡ begun setup opening → b.lanes.items ≡ replicate (length setup.seeds) (fresh room)
    → room ≡ length setup.program.ops → b.scratch.room ≡ room
    → length setup.seeds * setup.turns ≤ vec_capacity b.entries → b.least ≡ cost_of b.incumbent.listing.lines
    → IsBoard (begun setup opening) → IsInside b
begun_inside b setup opening room view are roomy scratch capacity least board =
    let lanes : List Lane = replicate (length setup.seeds) (fresh room) in
    let none : b.entries.items ≡ [] = ap (λ (v : BoardView). v.entries) view in
    let ops : room ≡ length (arc_value b.program).ops =
    roomy ∙ sym (ap (λ (v : BoardView). length v.setup.program.ops) view) in
    let all : length b.seeds.items * b.turns ≡ length setup.seeds * setup.turns =
    ap (λ (v : BoardView). length v.setup.seeds * v.setup.turns) view in
    record {
      board = subst IsBoard (sym view) board;
      room = omega arith;
      turns = has_turns b lanes [] are none (λ l low. fresh_turns (length setup.seeds) room l low);
      lanes = subst (AreLanes (length (arc_value b.program).ops) b.turns (length b.entries.items)) (sym are)
          (subst (λ n. AreLanes (length (arc_value b.program).ops) b.turns n lanes) (sym (ap length none))
          (subst (λ o. AreLanes o b.turns 0 lanes) ops (fresh_lanes (length setup.seeds) room b.turns)));
      least = least;
      scratch = omega arith;
    }
