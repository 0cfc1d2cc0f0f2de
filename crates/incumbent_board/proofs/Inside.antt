-- The whole board, fields and view: what a look and an offer make of it.
use Rattle.std.proofs.Common.{◌≡◌, ℕ, ◌+◌, ◌*◌, ◌<◌, ◌≤◌, Bool, List, [], ◌∷◌, ◌++◌, length, map, set}
use Rattle.std.proofs.Common.{get_or}
use Rattle.std.proofs.Common.{sym, ap, subst, ◌∙◌, arith}
use Rattle.std.specs.Prelude.{Option, Some, None, option_map, slice_get, slice_index, sum_by}
use Rattle.std.specs.Arc.{arc_value}
use Rattle.std.specs.Vec.{vec_capacity}
use Rattle.std.proofs.lemmas.List.{length-append, length-map}
use Rattle.std.proofs.lemmas.List.Sums.{sum_by-le}
use Rattle.word_program.specs.Program.{Source}
use Rattle.op_order.specs.declared.slot.Slot.{Slot}
use Rattle.op_order.specs.Legal.{IsLegal}
use Rattle.op_order.proofs.LegalLemmas.{legal_count}
use Rattle.cost_table.specs.Costs.{cost_of}
use Rattle.mutations.specs.declared.mutation.Draw.{Draw}
use Rattle.mutations.specs.declared.mutation.Mutation.{Mutation}
use Rattle.journal_rules.specs.declared.journal.Entry.{Entry}
use Rattle.journal_rules.specs.Legal.{turns_of}
use Rattle.journal_rules.specs.Machine.{IsLookAt}
use Rattle.incumbent_board.specs.declared.lanes.Lane.{Lane}
use Rattle.incumbent_board.specs.declared.board.Board.TheInside.{Inside}
use Rattle.incumbent_board.specs.declared.offer.Sight.{Sight}
use Rattle.incumbent_board.specs.Views.{Look, BoardView}
use Rattle.incumbent_board.specs.BoardOk.{IsBoard}
use Rattle.incumbent_board.specs.Calls.{sight_of, looked_at}
use Rattle.incumbent_board.specs.Inside.{fresh, lane_at, held, ended, look_of, view_of, AreLanes, IsInside}
use Rattle.incumbent_board.proofs.Kept.{lane_there, lanes_are, look_seen}
use Rattle.incumbent_board.proofs.Stored.{lanes_held, lanes_ended, room_left, turns_held, turns_ended}
use Rattle.incumbent_board.proofs.Stored.{all_turns, looks_held, lane_read, look_there}

abbrev pub with_looks : BoardView → List (Option Look) → BoardView
with_looks b looks = record {
  setup = b.setup;
  entries = b.entries;
  looks = looks;
  best = b.best;
  incumbent = b.incumbent;
}

-- the two are boards of one search: only the entries, the lanes and the incumbent may differ
pub record IsSameSearch (a b : Inside) : Type 0 where
  pub program : arc_value b.program ≡ arc_value a.program
  pub seeds : b.seeds.items ≡ a.seeds.items
  pub turns : b.turns ≡ a.turns
  pub capacity : vec_capacity a.entries ≤ vec_capacity b.entries
  pub scratch : b.scratch.room ≡ a.scratch.room
  pub least : b.least ≡ cost_of b.incumbent.listing.lines

room_stays : (a b : Inside) → IsInside a → IsSameSearch a b → length b.seeds.items * b.turns ≤ vec_capacity b.entries
room_stays a b is same =
    let e : length b.seeds.items * b.turns ≡ length a.seeds.items * a.turns =
    ap (λ (l : List ℕ). length l * b.turns) same.seeds ∙ ap (λ t. length a.seeds.items * t) same.turns in
    let room = is.room in
    let more = same.capacity in
    omega arith

are_lanes : (a b : Inside) (entries : ℕ) (lanes : List Lane) → IsSameSearch a b → length b.entries.items ≡ entries
    → b.lanes.items ≡ lanes → AreLanes (length (arc_value a.program).ops) a.turns entries lanes
    → AreLanes (length (arc_value b.program).ops) b.turns (length b.entries.items) b.lanes.items
are_lanes a b entries lanes same size is are =
    subst (AreLanes (length (arc_value b.program).ops) b.turns (length b.entries.items)) (sym is)
    (subst (λ n. AreLanes (length (arc_value b.program).ops) b.turns n lanes) (sym size)
    (subst (λ t. AreLanes (length (arc_value b.program).ops) t entries lanes) (sym same.turns)
    (subst (λ (p : Source). AreLanes (length p.ops) a.turns entries lanes) (sym same.program) are)))

abbrev pub HasTurns : List Lane → List Entry → Type 0
HasTurns lanes entries = (l : ℕ) → l < length lanes → (lane_at lanes l).turn ≡ turns_of l entries

pub has_turns : (b : Inside) (lanes : List Lane) (entries : List Entry) → b.lanes.items ≡ lanes
    → b.entries.items ≡ entries → HasTurns lanes entries → HasTurns b.lanes.items b.entries.items
has_turns b lanes entries same also has =
    subst (λ l. HasTurns l b.entries.items) (sym same) (subst (HasTurns lanes) (sym also) has)

scratch_stays : (a b : Inside) → IsInside a → IsSameSearch a b → length (arc_value b.program).ops ≤ b.scratch.room
scratch_stays a b is same =
    let e = ap (λ (p : Source). length p.ops) same.program in
    let scratch = same.scratch in
    let before = is.scratch in
    omega arith

pub inside_looked : (a b : Inside) (lane seen : ℕ) (slots : List Slot) → IsInside a → IsSameSearch a b
    → lane < length a.lanes.items → IsBoard (view_of b) → b.entries.items ≡ a.entries.items
    → b.lanes.items ≡ set a.lanes.items lane (held seen slots (lane_at a.lanes.items lane)) → IsInside b
inside_looked a b lane seen slots is same low board entries lanes = record {
  board = board;
  room = room_stays a b is same;
  turns = has_turns b _ a.entries.items lanes entries
      (turns_held a.entries.items a.lanes.items lane seen slots low is.turns);
  lanes = are_lanes a b (length a.entries.items) _ same (ap length entries) lanes
      (lanes_held (length (arc_value a.program).ops) a.turns (length a.entries.items) a.lanes.items lane seen slots
      is.lanes low);
  least = same.least;
  scratch = scratch_stays a b is same;
}

pub inside_entered : (a b : Inside) (e : Entry) → IsInside a → IsSameSearch a b → e.lane < length a.lanes.items
    → (lane_at a.lanes.items e.lane).turn < a.turns → IsBoard (view_of b)
    → b.entries.items ≡ a.entries.items ++ e ∷ []
    → b.lanes.items ≡ set a.lanes.items e.lane (ended (lane_at a.lanes.items e.lane)) → IsInside b
inside_entered a b e is same low left board entries lanes =
    let size : length b.entries.items ≡ length a.entries.items + 1 =
    ap length entries ∙ length-append a.entries.items (e ∷ []) in
    record {
      board = board;
      room = room_stays a b is same;
      turns = has_turns b _ (a.entries.items ++ e ∷ []) lanes entries
          (turns_ended a.entries.items a.lanes.items e low is.turns);
      lanes = are_lanes a b (length a.entries.items + 1) _ same size lanes
          (lanes_ended (length (arc_value a.program).ops) a.turns (length a.entries.items) a.lanes.items e.lane
          is.lanes low left);
      least = same.least;
      scratch = scratch_stays a b is same;
    }

-- ---- a look

-- the view of a board of which a lane looked
pub looked_view : (a : Inside) (lanes : List Lane) (lane seen : ℕ) (slots : List Slot)
    → lanes ≡ set a.lanes.items lane (held seen slots (lane_at a.lanes.items lane)) → seen ≡ length a.entries.items
    → slots ≡ a.incumbent.plan.slots → with_looks (view_of a) (map look_of lanes) ≡ looked_at (view_of a) lane
looked_view a lanes lane seen slots is count plan =
    ap (with_looks (view_of a)) (ap (map look_of) is ∙ looks_held a.lanes.items lane seen slots
    ∙ ap (λ n. set (map look_of a.lanes.items) lane (Some (record { seen = n; slots = slots }))) count
    ∙ ap (λ s. set (map look_of a.lanes.items) lane (Some (record { seen = length a.entries.items; slots = s }))) plan)

-- ---- lanes

pub lanes_of : (a : Inside) → IsInside a → length a.lanes.items ≡ length a.seeds.items
lanes_of a is = sym (length-map a.lanes.items look_of) ∙ lanes_are (view_of a) is.board

-- a lane that has a look is there and has a turn left, and there is room for its entry
pub record IsLeft (a : Inside) (lane : ℕ) : Type 0 where
  pub low : lane < length a.lanes.items
  pub left : (lane_at a.lanes.items lane).turn < a.turns
  pub few : (lane_at a.lanes.items lane).turn ≤ 65535
  pub room : length a.entries.items < vec_capacity a.entries

pub look_left : (a : Inside) (lane : ℕ) (look : Look) → IsInside a
    → slice_get (view_of a).looks lane ≡ Some (Some look) → IsLeft a lane
look_left a lane look is at =
    let there = lane_there (view_of a) is.board lane look at in
    let same = lanes_of a is in
    let low : lane < length a.lanes.items = omega arith in
    let m : IsLookAt (view_of a).setup a.entries.items lane look.seen =
    is.board.machine.looks lane look.seen (look_seen (view_of a) lane look at) in
    let left : (lane_at a.lanes.items lane).turn < a.turns = omega (arith, is.turns lane low, m.left) in
    let limit = is.board.limits.turns in
    record {
      low = low;
      left = left;
      few = omega arith;
      room = room_left (length (arc_value a.program).ops) a.turns (length a.entries.items) (vec_capacity a.entries)
          a.lanes.items lane (length a.seeds.items) is.lanes low left (sym same) is.room;
    }

-- a lane that may look
pub record MayLook (a : Inside) (lane : ℕ) : Type 0 where
  pub low : lane < length a.lanes.items
  pub seeds : lane < length a.seeds.items
  pub left : turns_of lane a.entries.items < a.turns

pub may_look : (a : Inside) (v : BoardView) (lane : ℕ) (x : Lane) → IsInside a → view_of a ≡ v
    → lane < length v.setup.seeds → x ≡ get_or a.lanes.items lane x → x.turn < a.turns → MayLook a lane
may_look a v lane x is view there at left =
    let seeds : lane < length a.seeds.items = subst (λ (b : BoardView). lane < length b.setup.seeds) (sym view) there in
    let same = lanes_of a is in
    let low : lane < length a.lanes.items = omega arith in
    let turn = ap (λ (l : Lane). l.turn) (lane_read a.lanes.items lane x low at) in
    record { low = low; seeds = seeds; left = omega (arith, turn, is.turns lane low, left) }

-- the turn of a lane that was read
pub turn_read : (a : Inside) (v : BoardView) (lane : ℕ) (x : Lane) → IsInside a → view_of a ≡ v
    → lane < length v.setup.seeds → x ≡ get_or a.lanes.items lane x → x.turn ≡ turns_of lane v.entries
turn_read a v lane x is view there at =
    let seeds : lane < length a.seeds.items = subst (λ (b : BoardView). lane < length b.setup.seeds) (sym view) there in
    let same = lanes_of a is in
    let low : lane < length a.lanes.items = omega arith in
    let turn : x.turn ≡ turns_of lane (view_of a).entries =
    ap (λ (l : Lane). l.turn) (lane_read a.lanes.items lane x low at) ∙ is.turns lane low in
    subst (λ (b : BoardView). x.turn ≡ turns_of lane b.entries) view turn

-- what a lane is told
abbrev a_sight : ℕ → ℕ → ℕ → ℕ → Draw → Sight
a_sight lane turn seen seed draw = record { lane = lane; turn = turn; seen = seen; seed = seed; draw = draw }

pub sight_is : (a : Inside) (v : BoardView) (lane turn seen seed : ℕ) → view_of a ≡ v → turn ≡ turns_of lane v.entries
    → seen ≡ length a.entries.items → seed ≡ slice_index a.seeds.items lane
    → a_sight lane turn seen seed a.draw ≡ sight_of v lane
sight_is a v lane turn seen seed view turned count seeded =
    let turns : turn ≡ turns_of lane a.entries.items =
    turned ∙ sym (ap (λ (b : BoardView). turns_of lane b.entries) view) in
    ap (λ t. a_sight lane t seen seed a.draw) turns
    ∙ ap (λ n. a_sight lane (turns_of lane a.entries.items) n seed a.draw) count
    ∙ ap (λ s. a_sight lane (turns_of lane a.entries.items) (length a.entries.items) s a.draw) seeded
    ∙ ap (λ (b : BoardView). sight_of b lane) view

-- the plan of the incumbent has a slot for each operation
pub plan_fits : (a : Inside) → IsInside a → length a.incumbent.plan.slots ≡ length (arc_value a.program).ops
plan_fits a is =
    let inc = is.board.incumbent in
    legal_count a.incumbent.program a.incumbent.plan.slots inc.checks.legal
    ∙ ap (λ (p : Source). length p.ops) inc.program

pub lane_fits : (a : Inside) (lane : ℕ) → IsInside a → lane < length a.seeds.items
    → length (arc_value a.program).ops ≤ (lane_at a.lanes.items lane).plan.room
lane_fits a lane is seeds =
    let same = lanes_of a is in
    is.lanes.rooms lane (fresh 0) (omega arith)

-- the look of a lane is its plan
some_slots : (slots : List Slot) (seen : Option ℕ) (look : Look)
    → option_map (λ n. record { seen = n; slots = slots }) seen ≡ Some look → look.slots ≡ slots
some_slots slots None look e = absurd cc
some_slots slots (Some n) look e =
    let l : Look = record { seen = n; slots = slots } in
    let same : l ≡ look = cc in
    sym (ap (λ (k : Look). k.slots) same)

pub look_slots : (a : Inside) (lane : ℕ) (look : Look) (x : Lane) → IsInside a
    → slice_get (view_of a).looks lane ≡ Some (Some look) → x ≡ get_or a.lanes.items lane x
    → look.slots ≡ x.plan.slots
look_slots a lane look x is there at =
    let l = look_left a lane look is there in
    let low = l.low in
    let here : Some (look_of (lane_at a.lanes.items lane)) ≡ Some (Some look) =
    sym (look_there a.lanes.items lane low) ∙ there in
    let same : look_of (lane_at a.lanes.items lane) ≡ Some look = cc in
    some_slots (lane_at a.lanes.items lane).plan.slots (lane_at a.lanes.items lane).seen look same
    ∙ sym (ap (λ (l : Lane). l.plan.slots) (lane_read a.lanes.items lane x low at))

-- the plan of a look is legal, and there is room for it
pub record IsReady (a : Inside) (slots : List Slot) : Type 0 where
  pub legal : IsLegal (arc_value a.program) slots
  pub room : length slots ≤ a.scratch.room

pub look_ready : (a : Inside) (lane : ℕ) (look : Look) (slots : List Slot) → IsInside a
    → slice_get (view_of a).looks lane ≡ Some (Some look) → look.slots ≡ slots → IsReady a slots
look_ready a lane look slots is there same =
    let kept = is.board.plans lane look there in
    let legal = subst (IsLegal (arc_value a.program)) same kept.legal in
    let count = legal_count (arc_value a.program) slots legal in
    let room = is.scratch in
    record { legal = legal; room = omega arith }

-- ---- the entry of an offer

abbrev pub an_entry : ℕ → ℕ → ℕ → Mutation → ℕ → Bool → Entry
an_entry lane turn seen mutation cost plain = record {
  lane = lane;
  turn = turn;
  seen = seen;
  mutation = mutation;
  cost = cost;
  plain = plain;
}

pub same_entry : (lane turn turns seen sees : ℕ) (mutation mutates : Mutation) (cost costs : ℕ) (plain : Bool)
    → turn ≡ turns → seen ≡ sees → mutation ≡ mutates → cost ≡ costs
    → an_entry lane turn seen mutation cost plain ≡ an_entry lane turns sees mutates costs plain
same_entry lane turn turns seen sees mutation mutates cost costs plain t s m c =
    ap (λ n. an_entry lane n seen mutation cost plain) t ∙ ap (λ n. an_entry lane turns n mutation cost plain) s
    ∙ ap (λ n. an_entry lane turns sees n cost plain) m ∙ ap (λ n. an_entry lane turns sees mutates n plain) c

-- ---- how many entries there are

pub entries_within : (a : Inside) → IsInside a → length a.entries.items ≤ length a.seeds.items * a.turns
entries_within a is =
    let sum = sum_by-le (λ (l : Lane). l.turn) a.turns a.lanes.items is.lanes.within in
    let most : sum_by (λ (l : Lane). l.turn) a.lanes.items ≤ length a.seeds.items * a.turns =
    subst (λ n. sum_by (λ (l : Lane). l.turn) a.lanes.items ≤ n * a.turns) (lanes_of a is) sum in
    omega (arith, most, is.lanes.counted)

pub entries_whole : (a : Inside) → IsInside a
    → ((lane : ℕ) → lane < length a.seeds.items → a.turns ≤ turns_of lane a.entries.items)
    → length a.entries.items ≡ length a.seeds.items * a.turns
entries_whole a is made =
    let same = lanes_of a is in
    let all = all_turns a.turns a.lanes.items (λ l low. subst (λ n. a.turns ≤ n) (sym (is.turns l low)) (made l (omega
    arith))) in
    let least : length a.seeds.items * a.turns ≤ sum_by (λ (l : Lane). l.turn) a.lanes.items =
    subst (λ n. n * a.turns ≤ sum_by (λ (l : Lane). l.turn) a.lanes.items) same all in
    let within = entries_within a is in
    omega (arith, least, is.lanes.counted, within)
