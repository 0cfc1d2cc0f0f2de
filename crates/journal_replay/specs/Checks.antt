-- The checks of a replay in their order, and the first one that fails.
use Rattle.std.specs.Prelude.{◌≡◌, ◌≢◌, ℕ, List, length, ◌⊎◌}
use Rattle.word_program.specs.Program.{Source}
use Rattle.x86_instr.specs.Listings.{NamedLines}
use Rattle.op_order.specs.declared.slot.Slot.{Slot}
use Rattle.op_order.specs.Plans.{opening_of}
use Rattle.op_order.specs.Realises.{DiffersFirst, Realises}
use Rattle.cost_table.specs.Costs.{cost_of}
use Rattle.equiv_validator.specs.Checks.{Fails, IsProved}
use Rattle.equiv_validator.specs.Kept.{IsChecked}
use Rattle.journal_rules.specs.declared.journal.Journal.{Journal}
use Rattle.journal_rules.specs.Numbers.{Setup, cost_at, plan_at, incumbent_at}
use Rattle.journal_rules.specs.Legal.{IsLegalJournal, IsWhole}
use Rattle.journal_rules.specs.Backed.{plain_cost}
use Rattle.journal_replay.specs.declared.fault.ReplayFault.{ReplayFault}
use Rattle.journal_replay.specs.declared.fault.ReplayFault.TheVariants as faults
use Rattle.journal_replay.specs.Rules.{BreaksAt}

-- what is replayed: a program, the digest of its file, a journal, and a listing
pub record Given : Type 0 where
  pub program : Source
  pub digest : List ℕ
  pub journal : Journal
  pub listing : NamedLines

abbrev pub given : Source → List ℕ → Journal → NamedLines → Given
given program digest journal listing =
    record { program = program; digest = digest; journal = journal; listing = listing }

-- what the search of a journal began with, for this program
abbrev pub setup_in : Source → Journal → Setup
setup_in program journal = record {
  program = program;
  draw = journal.draw;
  seeds = journal.seeds;
  turns = journal.turns;
  opening = journal.opening;
}

abbrev pub setup_of : Given → Setup
setup_of g = setup_in g.program g.journal

-- the number of the incumbent after all entries, its plan and its cost
abbrev pub last_number : Given → ℕ
last_number g = incumbent_at (setup_of g) g.journal.entries (length g.journal.entries)

abbrev pub last_plan : Given → List Slot
last_plan g = plan_at (setup_of g) g.journal.entries (last_number g)

abbrev pub last_cost : Given → ℕ
last_cost g = cost_at (setup_of g) g.journal.entries (last_number g)

-- ---- the checks

-- 1: the journal is of the program's file
abbrev pub HasDigest : Given → Type 0
HasDigest g = g.journal.digest ≡ g.digest

-- 2: it begins with the cost of the plain listing of the opening plan
abbrev pub HasOpening : Given → Type 0
HasOpening g = g.journal.opening ≡ plain_cost g.program (opening_of g.program)

-- 3: it is legal, and has all turns of all lanes
abbrev pub HasEntries : Given → Type 0
HasEntries g = IsLegalJournal (setup_of g) g.journal.entries × IsWhole (setup_of g) g.journal.entries

-- 4: the listing does what the plan of the incumbent says
abbrev pub HasPlan : Given → Type 0
HasPlan g = Realises g.program (last_plan g) g.listing

-- 5: it costs what the journal says of the incumbent
abbrev pub HasCost : Given → Type 0
HasCost g = last_cost g ≡ cost_of g.listing.lines

-- 6: it is proved for the program; the name of the listing counts for nothing
abbrev pub HasProof : Given → Type 0
HasProof g = IsProved g.program g.listing.lines

-- all of them
pub record Replays (g : Given) : Type 0 where
  pub digest_is : HasDigest g
  pub opening : HasOpening g
  pub entries : HasEntries g
  pub plan : HasPlan g
  pub cost : HasCost g
  pub proof : HasProof g

-- ---- the first check that fails

-- the costs that are told differ
abbrev pub AreOthers : ℕ → ℕ → ℕ → ℕ → Type 0
AreOthers recorded table in_journal of_listing =
    (recorded ≡ in_journal) × (table ≡ of_listing) × (recorded ≢ table)

-- the first two checks hold, and the first three
abbrev pub HasStart : Given → Type 0
HasStart g = HasDigest g × HasOpening g

abbrev pub HasJournal : Given → Type 0
HasJournal g = HasDigest g × HasOpening g × HasEntries g

-- The fault is that of the first check that fails. Memory may be short at any time.
abbrev pub IsFirstFault : Given → ReplayFault → Type 0
IsFirstFault g (faults.Digest journal program) =
    (journal ≡ g.journal.digest) × (program ≡ g.digest) × (journal ≢ program)
IsFirstFault g (faults.Entry number rule) = HasStart g × BreaksAt (setup_of g) g.journal.entries number rule
IsFirstFault g (faults.Realises slot) = HasJournal g × DiffersFirst g.program (last_plan g) g.listing slot
IsFirstFault g (faults.Cost recorded table) =
    (HasDigest g × AreOthers recorded table g.journal.opening (plain_cost g.program (opening_of g.program)))
    ⊎ (HasJournal g × HasPlan g × AreOthers recorded table (last_cost g) (cost_of g.listing.lines))
IsFirstFault g (faults.NotProved why) = HasJournal g × HasPlan g × HasCost g × Fails g.program g.listing.lines why
IsFirstFault g faults.Memory = Unit {0}

-- ---- what a replay tells

-- the listing under the name of the program
abbrev pub renamed : Source → NamedLines → NamedLines
renamed program listing = record { name = program.name; lines = listing.lines }

-- The number is that of the incumbent of a journal that is legal and whole; and the listing, under the program's name,
-- is checked together with the plan of that number, so that it is correct, and has its cost.
pub record IsIncumbentOf (g : Given) (number : ℕ) : Type 0 where
  pub last : number ≡ last_number g
  pub legal : IsLegalJournal (setup_of g) g.journal.entries
  pub whole : IsWhole (setup_of g) g.journal.entries
  pub checks : IsChecked g.program (plan_at (setup_of g) g.journal.entries number) (renamed g.program g.listing)
  pub cost : cost_at (setup_of g) g.journal.entries number ≡ cost_of g.listing.lines
