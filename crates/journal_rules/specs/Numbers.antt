-- The numbers of a journal: 0 is the opening, and the entries count from 1. Each has a cost and a plan, which is the
-- mutation of the entry applied to the plan of the number that its lane saw: among the numbers that stood in the
-- journal at the lane's look, the last one of least cost.
use Rattle.std.specs.Prelude.{ℕ, zero, suc, ◌*◌, ◌≤◌, List, [], ◌∷◌, ◌++◌, length, nat_le, slice_index_or}
use Rattle.std.specs.Prelude.{if◌then◌else◌}
use Rattle.word_program.specs.Program.{Source}
use Rattle.op_order.specs.declared.slot.Slot.{Slot}
use Rattle.op_order.specs.Plans.{opening_of}
use Rattle.mutations.specs.declared.mutation.Draw.{Draw}
use Rattle.mutations.specs.Mutations.{applied}
use Rattle.journal_rules.specs.declared.journal.Entry.{Entry}
use Rattle.journal_rules.specs.declared.limits.TheConstants.{MAX_LANES, MAX_TURNS, MAX_ENTRIES}

-- what a search begins with: the program, the draw, a seed for each lane, the turns of a lane, and what the listing of
-- the opening plan costs
pub record Setup : Type 0 where
  pub program : Source
  pub draw : Draw
  pub seeds : List ℕ
  pub turns : ℕ
  pub opening : ℕ

-- within the limits: 1 to 64 lanes, and not too many turns
pub record IsLimited (setup : Setup) : Type 0 where
  pub some : 1 ≤ length setup.seeds
  pub lanes : length setup.seeds ≤ MAX_LANES
  pub turns : setup.turns ≤ MAX_TURNS
  pub entries : length setup.seeds * setup.turns ≤ MAX_ENTRIES

pub record Number : Type 0 where
  pub cost : ℕ
  pub slots : List Slot

abbrev pub number_at : List Number → ℕ → Number
number_at numbers k = slice_index_or numbers k (record { cost = 0; slots = [] })

-- among the numbers 0 to j, the last one of least cost
abbrev pub best_at : List Number → ℕ → ℕ
best_at numbers zero = zero
best_at numbers (suc j) =
    if nat_le (number_at numbers (suc j)).cost (number_at numbers (best_at numbers j)).cost then suc j
    else best_at numbers j

-- the plan of the best number that a lane sees after so many entries
abbrev pub plan_seen : List Number → ℕ → List Slot
plan_seen numbers seen = (number_at numbers (best_at numbers seen)).slots

-- the number of an entry, after these
abbrev pub number_of : Source → List Number → Entry → Number
number_of program numbers e = record {
  cost = e.cost;
  slots = applied program e.mutation (plan_seen numbers e.seen);
}

-- these numbers, and those of entries behind them
abbrev pub numbers_after : Source → List Number → List Entry → List Number
numbers_after program numbers [] = numbers
numbers_after program numbers (e ∷ es) = numbers_after program (numbers ++ number_of program numbers e ∷ []) es

abbrev pub opening_number : Setup → Number
opening_number setup = record { cost = setup.opening; slots = opening_of setup.program }

-- the numbers of a journal
unfoldable pub numbers_of : Setup → List Entry → List Number
numbers_of setup es = numbers_after setup.program (opening_number setup ∷ []) es

-- ---- by number

-- the cost of a number
abbrev pub cost_at : Setup → List Entry → ℕ → ℕ
cost_at setup es k = (number_at (numbers_of setup es) k).cost

-- the plan of a number
abbrev pub plan_at : Setup → List Entry → ℕ → List Slot
plan_at setup es k = (number_at (numbers_of setup es) k).slots

-- the incumbent's number after j entries
abbrev pub incumbent_at : Setup → List Entry → ℕ → ℕ
incumbent_at setup es j = best_at (numbers_of setup es) j

-- the number of which an entry changed the plan: the incumbent's at its look
abbrev pub parent_of : Setup → List Entry → Entry → ℕ
parent_of setup es e = incumbent_at setup es e.seen
