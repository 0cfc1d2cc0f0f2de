-- How a replay goes; no part of a promise.
use Rattle.std.specs.Prelude.{◌≡◌, ◌<◌, ◌≤◌, ◌+◌, ◌==◌, ◌&&◌, ℕ, List, [], ◌∷◌, length, map, nat_le, nat_lt}
use Rattle.std.specs.Prelude.{slice_index_or, slice_set, if◌then◌else◌}
use Rattle.op_order.specs.declared.slot.Slot.{Slot}
use Rattle.op_order.specs.Plans.{SlotsWithRoom}
use Rattle.op_order.specs.Legal.{IsLegal}
use Rattle.mutations.specs.Mutations.{applied}
use Rattle.journal_rules.specs.declared.journal.Entry.{Entry}
use Rattle.word_program.specs.Program.{Source}
use Rattle.journal_rules.specs.Numbers.{Setup, numbers_of, plan_seen, cost_at, incumbent_at}
use Rattle.journal_rules.specs.Legal.{turns_of, last_of, IsLegalJournal}
use Rattle.op_order.specs.Plans.{opening_of}
use Rattle.op_order.specs.Realises.{DiffersFirst, Realises}
use Rattle.x86_instr.specs.Listings.{NamedLines}
use Rattle.cost_table.specs.Costs.{cost_of}
use Rattle.equiv_validator.specs.Checks.{Fails}
use Rattle.journal_rules.specs.declared.journal.Journal.{Journal}
use Rattle.journal_rules.specs.Backed.{plain_cost}
use Rattle.journal_replay.specs.declared.lanes.Lane.{Lane}
use Rattle.journal_replay.specs.declared.fault.ReplayFault.{ReplayFault}
use Rattle.journal_replay.specs.declared.fault.ReplayFault.TheVariants as faults
use Rattle.journal_replay.specs.Rules.{BreaksAt}
use Rattle.journal_replay.specs.Checks.{AreOthers, Replays, IsFirstFault, IsIncumbentOf, given}

-- ---- lanes

-- how many entries the first entry of the lane saw among these, or 0 where the lane has none
abbrev pub next_seen : ℕ → List Entry → ℕ
next_seen lane [] = 0
next_seen lane (e ∷ es) = if e.lane == lane then e.seen else next_seen lane es

-- a lane before any entry, with room for a plan
abbrev pub fresh : List Entry → ℕ → ℕ → Lane
fresh es room lane = record {
  turn = 0;
  last = 0;
  next = next_seen lane es;
  plan = record { slots = []; room = room };
}

abbrev pub lane_at : List Lane → ℕ → Lane
lane_at lanes lane = slice_index_or lanes lane (fresh [] 0 0)

-- the lane keeps the incumbent's plan where it looks next while this number is the incumbent, after so many entries
abbrev pub kept : ℕ → ℕ → List Slot → Lane → Lane
kept best count slots lane =
    if nat_le best lane.next && nat_le lane.next count
    then record {
      turn = lane.turn;
      last = lane.last;
      next = lane.next;
      plan = record { slots = slots; room = lane.plan.room };
    }
    else lane

-- the lane behind an entry of its own with this number, where it looks next after so many
abbrev pub behind : ℕ → ℕ → Lane → Lane
behind number next lane = record { turn = lane.turn + 1; last = number; next = next; plan = lane.plan }

-- ---- the state of a replay

pub record PlayerView : Type 0 where
  pub lanes : List Lane
  -- the incumbent's number, cost and plan
  pub best : ℕ
  pub least : ℕ
  pub plan : SlotsWithRoom
  pub scratch : SlotsWithRoom

-- the plan that the lane sees next: that which it keeps, or the incumbent's
abbrev pub look_in : PlayerView → ℕ → SlotsWithRoom
look_in p lane = if nat_lt (lane_at p.lanes lane).next p.best then (lane_at p.lanes lane).plan else p.plan

-- the entry behind so many others is the incumbent
abbrev pub improved : Source → ℕ → Entry → PlayerView → PlayerView
improved program count e p = record {
  lanes = map (kept p.best count p.plan.slots) p.lanes;
  best = count + 1;
  least = e.cost;
  plan = record { slots = applied program e.mutation (look_in p e.lane).slots; room = p.plan.room };
  scratch = record { slots = applied program e.mutation (look_in p e.lane).slots; room = p.scratch.room };
}

-- where it costs no more than the incumbent
abbrev pub compared : Source → ℕ → Entry → PlayerView → PlayerView
compared program count e p = if nat_le e.cost p.least then improved program count e p else p

-- the entry's lane goes on
abbrev pub gone_on : ℕ → ℕ → ℕ → PlayerView → PlayerView
gone_on number next lane p = record {
  lanes = slice_set p.lanes lane (behind number next (lane_at p.lanes lane));
  best = p.best;
  least = p.least;
  plan = p.plan;
  scratch = p.scratch;
}

-- the slots are those of the incumbent after so many of these entries
pub record IsPlanSeen (setup : Setup) (es : List Entry) (seen : ℕ) (slots : List Slot) : Type 0 where
  pub is : slots ≡ plan_seen (numbers_of setup es) seen
  pub legal : IsLegal setup.program slots

-- the lane behind these entries and before those
pub record IsLane (setup : Setup) (done rest : List Entry) (best lane : ℕ) (l : Lane) : Type 0 where
  pub turn : l.turn ≡ turns_of lane done
  pub last : l.last ≡ last_of lane done
  pub next : l.next ≡ next_seen lane rest
  -- where its next look was overtaken, it keeps the plan
  pub look : l.last ≤ l.next → l.next < best → IsPlanSeen setup done l.next l.plan.slots
  pub room : length setup.program.ops ≤ l.plan.room

pub record IsPlayed (setup : Setup) (done rest : List Entry) (p : PlayerView) : Type 0 where
  pub legal : IsLegalJournal setup done
  pub best : p.best ≡ incumbent_at setup done (length done)
  pub least : p.least ≡ cost_at setup done (incumbent_at setup done (length done))
  pub plan : IsPlanSeen setup done (length done) p.plan.slots
  pub count : length p.lanes ≡ length setup.seeds
  pub lanes : (lane : ℕ) → lane < length p.lanes → IsLane setup done rest p.best lane (lane_at p.lanes lane)
  pub room : length setup.program.ops ≤ p.plan.room
  pub scratch : length setup.program.ops ≤ p.scratch.room

-- the entry keeps the rules 1 to 4
pub record KeepsPlace (setup : Setup) (earlier : List Entry) (e : Entry) : Type 0 where
  pub lane : e.lane < length setup.seeds
  pub turn : e.turn ≡ turns_of e.lane earlier
  pub within : e.turn < setup.turns
  pub seen : e.seen ≤ length earlier
  pub since : last_of e.lane earlier ≤ e.seen

-- ---- parts of a replay

-- a fault of the entries
abbrev pub IsEntryFault : Setup → List Entry → ReplayFault → Type 0
IsEntryFault setup es (faults.Entry number rule) = BreaksAt setup es number rule
IsEntryFault setup es faults.Memory = Unit {0}
IsEntryFault setup es fault = ⊥

-- a fault of the opening, of which the journal says this cost
abbrev pub IsOpeningFault : Source → ℕ → ReplayFault → Type 0
IsOpeningFault program opening (faults.Cost recorded table) =
    AreOthers recorded table opening (plain_cost program (opening_of program))
IsOpeningFault program opening faults.Memory = Unit {0}
IsOpeningFault program opening fault = ⊥

-- a fault of the listing for a plan, of which the journal says this cost
abbrev pub IsListingFault : Source → List Slot → NamedLines → ℕ → ReplayFault → Type 0
IsListingFault program slots listing cost (faults.Realises slot) = DiffersFirst program slots listing slot
IsListingFault program slots listing cost (faults.Cost recorded table) =
    Realises program slots listing × AreOthers recorded table cost (cost_of listing.lines)
IsListingFault program slots listing cost (faults.NotProved why) =
    Realises program slots listing × (cost ≡ cost_of listing.lines) × Fails program listing.lines why
IsListingFault program slots listing cost faults.Memory = Unit {0}
IsListingFault program slots listing cost fault = ⊥

-- behind the check of the digest: all checks hold, and the number is the incumbent's
pub record ReplaysBehind (program : Source) (journal : Journal) (listing : NamedLines) (number : ℕ) : Type 0 where
  pub replays : Replays (given program journal.digest journal listing)
  pub incumbent : IsIncumbentOf (given program journal.digest journal listing) number

-- or this is the first fault
abbrev pub IsFaultBehind : Source → Journal → NamedLines → ReplayFault → Type 0
IsFaultBehind program journal listing fault = IsFirstFault (given program journal.digest journal listing) fault
