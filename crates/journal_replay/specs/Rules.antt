-- The rules of journals by their numbers, and the first one that an entry breaks.
use Rattle.std.specs.Prelude.{◌≡◌, ◌<◌, ◌≤◌, ◌*◌, ℕ, suc, List, length, take, Some, slice_get, ◌⊎◌}
use Rattle.journal_rules.specs.declared.journal.Entry.{Entry}
use Rattle.journal_rules.specs.Numbers.{Setup}
use Rattle.journal_rules.specs.Legal.{turns_of, last_of, mutation_drawn, IsLegalJournal}

-- what the rule with this number asks of an entry behind these, which are the earlier ones
pub record Keeps (setup : Setup) (earlier : List Entry) (e : Entry) (rule : ℕ) : Type 0 where
  -- there is a seed for its lane
  pub lane : rule ≡ 1 → e.lane < length setup.seeds
  -- its turn is the next one of its lane, and one that a lane has
  pub turn : rule ≡ 2 → (e.turn ≡ turns_of e.lane earlier) × (e.turn < setup.turns)
  -- its lane saw entries with a lower number than its own alone
  pub seen : rule ≡ 3 → e.seen < suc (length earlier)
  -- its lane saw its own last entry
  pub since : rule ≡ 4 → last_of e.lane earlier ≤ e.seen
  -- its mutation is the one that its lane's seed and its turn draw for the plan that the lane saw
  pub mutation : rule ≡ 5 → e.mutation ≡ mutation_drawn setup earlier e.lane e.turn e.seen

-- the rule with this number is the first one that the entry breaks
pub record BreaksFirst (setup : Setup) (earlier : List Entry) (e : Entry) (rule : ℕ) : Type 0 where
  pub within : (1 ≤ rule) × (rule ≤ 5)
  pub kept : (r : ℕ) → r < rule → Keeps setup earlier e r
  pub broken : Keeps setup earlier e rule → ⊥

-- the entry with this number, counted from 1, is the first one that breaks a rule
pub record HasFaultyEntry (setup : Setup) (es : List Entry) (number rule : ℕ) : Type 0 where
  pub at : ℕ
  pub e : Entry
  pub count : number ≡ suc at
  pub there : slice_get es at ≡ Some e
  pub legal : IsLegalJournal setup (take at es)
  pub breaks : BreaksFirst setup (take at es) e rule

-- no entry breaks a rule, but there are fewer than all turns of all lanes: rule 6, and the number of the one that comes
-- next
pub record IsShort (setup : Setup) (es : List Entry) (number rule : ℕ) : Type 0 where
  pub sixth : rule ≡ 6
  pub next : number ≡ suc (length es)
  pub legal : IsLegalJournal setup es
  pub fewer : length es < length setup.seeds * setup.turns

-- the rule with this number is the first one that the journal breaks, at the entry with this number
abbrev pub BreaksAt : Setup → List Entry → ℕ → ℕ → Type 0
BreaksAt setup es number rule = HasFaultyEntry setup es number rule ⊎ IsShort setup es number rule
