-- The machine of a search, whatever its lanes cost and in whichever order they come: what looks and offers that are
-- taken do to the journal and to what each lane has seen. An offer that is refused is no event.
use Rattle.std.specs.Prelude.{◌≡◌, ℕ, ◌<◌, ◌≤◌, Bool, List, [], ◌∷◌, ◌++◌, length, map, Option, Some, None, nat_lt}
use Rattle.std.specs.Prelude.{slice_get, slice_set, if◌then◌else◌}
use Rattle.journal_rules.specs.declared.journal.Entry.{Entry}
use Rattle.journal_rules.specs.Numbers.{Setup}
use Rattle.journal_rules.specs.Legal.{turns_of, last_of, mutation_drawn, IsLegalJournal}

-- the entries, and of each lane how many of them its look saw, where it has one
pub record Machine : Type 0 where
  pub entries : List Entry
  pub looks : List (Option ℕ)

-- at the start there is no entry, and no lane has a look
abbrev pub IsStart : Setup → Machine → Type 0
IsStart setup m = (m.entries ≡ []) × (m.looks ≡ map (λ seed. None) setup.seeds)

pub data Event : Type 0 where
  Look : (lane : ℕ) → Event
  Settle : (lane cost : ℕ) (plain : Bool) → Event

-- the entry that a lane makes which saw so many of these
abbrev pub entry_of : Setup → List Entry → ℕ → ℕ → ℕ → Bool → Entry
entry_of setup es lane seen cost plain = record {
  lane = lane;
  turn = turns_of lane es;
  seen = seen;
  mutation = mutation_drawn setup es lane (turns_of lane es) seen;
  cost = cost;
  plain = plain;
}

-- a lane that has a turn left sees all entries; another one sees nothing
abbrev pub looked : Setup → ℕ → Machine → Machine
looked setup lane m =
    if nat_lt (turns_of lane m.entries) setup.turns
    then record { entries = m.entries; looks = slice_set m.looks lane (Some (length m.entries)) }
    else m

-- the entry of a lane that saw so many is appended, and its look ends
abbrev pub settled : Setup → ℕ → ℕ → Bool → ℕ → Machine → Machine
settled setup lane cost plain seen m = record {
  entries = m.entries ++ entry_of setup m.entries lane seen cost plain ∷ [];
  looks = slice_set m.looks lane None;
}

-- from one state the machine goes to the other by this event
abbrev pub Step : Setup → Machine → Event → Machine → Type 0
Step setup old (Look lane) new = (lane < length setup.seeds) × (new ≡ looked setup lane old)
Step setup old (Settle lane cost plain) new =
    (lane < length setup.seeds) × (seen : ℕ) × (slice_get old.looks lane ≡ Some (Some seen))
    × (new ≡ settled setup lane cost plain seen old)

-- and by these, in order
abbrev pub Run : Setup → Machine → List Event → Machine → Type 0
Run setup old [] new = new ≡ old
Run setup old (event ∷ events) new = (mid : Machine) × Step setup old event mid × Run setup mid events new

-- a lane that saw so many of these entries has a turn left, and they are no fewer than its own last one
pub record IsLookAt (setup : Setup) (es : List Entry) (lane seen : ℕ) : Type 0 where
  pub most : seen ≤ length es
  pub since : last_of lane es ≤ seen
  pub left : turns_of lane es < setup.turns

-- what every run keeps: a legal journal, and looks that can be settled
pub record IsMachine (setup : Setup) (m : Machine) : Type 0 where
  pub journal : IsLegalJournal setup m.entries
  pub lanes : length m.looks ≡ length setup.seeds
  pub looks : (lane seen : ℕ) → slice_get m.looks lane ≡ Some (Some seen) → IsLookAt setup m.entries lane seen
