-- What contracts see of a board: what its search began with, the journal so far, what each lane looks at, and the best
-- listing.
use Rattle.std.specs.Prelude.{ℕ, List, map, Option, option_map}
use Rattle.op_order.specs.declared.slot.Slot.{Slot}
use Rattle.equiv_validator.specs.Kept.{CheckedListing}
use Rattle.journal_rules.specs.declared.journal.Entry.{Entry}
use Rattle.journal_rules.specs.Numbers.{Setup}
use Rattle.journal_rules.specs.Machine.{Machine}

-- what a lane looked at: how many entries there were, and the incumbent's plan
pub record Look : Type 0 where
  pub seen : ℕ
  pub slots : List Slot

pub record BoardView : Type 0 where
  pub setup : Setup
  pub entries : List Entry
  -- of each lane, the look that it has not settled yet
  pub looks : List (Option Look)
  -- the incumbent's number, and the incumbent
  pub best : ℕ
  pub incumbent : CheckedListing

abbrev pub seen_by : Option Look → Option ℕ
seen_by look = option_map (λ l. l.seen) look

-- the state of the machine that the board is
abbrev pub machine_of : BoardView → Machine
machine_of b = record { entries = b.entries; looks = map seen_by b.looks }
