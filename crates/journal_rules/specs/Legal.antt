-- Legal journals: those that lanes make which look, change the plan that they see by the mutation that their next words
-- draw, and offer it.
use Rattle.std.specs.Prelude.{◌≡◌, ℕ, zero, suc, ◌<◌, ◌≤◌, ◌*◌, ◌==◌, Bool, List, [], ◌∷◌, ◌++◌, length, count_by}
use Rattle.std.specs.Prelude.{slice_index, if◌then◌else◌}
use Rattle.mutations.specs.Words.{words_of}
use Rattle.mutations.specs.Mutations.{drawn}
use Rattle.mutations.specs.declared.mutation.Mutation.{Mutation}
use Rattle.journal_rules.specs.declared.journal.Entry.{Entry}
use Rattle.journal_rules.specs.Numbers.{Setup, numbers_of, plan_seen}

-- how many of the entries are of the lane
abbrev pub turns_of : ℕ → List Entry → ℕ
turns_of lane es = count_by (λ e. e.lane == lane) es

-- how many entries there are up to the last one that passes, where behind the first entry there are so many
abbrev pub through_last : Bool → ℕ → ℕ
through_last passes zero = if passes then 1 else 0
through_last passes (suc behind) = suc (suc behind)

-- the number of the lane's last entry, or 0 where it has none
abbrev pub last_of : ℕ → List Entry → ℕ
last_of lane [] = 0
last_of lane (e ∷ es) = through_last (e.lane == lane) (last_of lane es)

-- the mutation that a lane draws at a turn, where the journal has these entries and the lane saw so many of them
unfoldable pub mutation_drawn : Setup → List Entry → ℕ → ℕ → ℕ → Mutation
mutation_drawn setup es lane turn seen =
    drawn setup.program (plan_seen (numbers_of setup es) seen) (words_of (slice_index setup.seeds lane) turn) setup.draw

-- the entry may stand behind these
pub record IsEntry (setup : Setup) (earlier : List Entry) (e : Entry) : Type 0 where
  pub lane : e.lane < length setup.seeds
  pub turn : e.turn ≡ turns_of e.lane earlier
  pub within : e.turn < setup.turns
  -- its look stood before it, and not before its lane's last entry
  pub seen : e.seen ≤ length earlier
  pub since : last_of e.lane earlier ≤ e.seen
  pub mutation : e.mutation ≡ mutation_drawn setup earlier e.lane e.turn e.seen

-- P holds of each entry and the entries before it, where these stand before the first
abbrev pub EachAfter : (List Entry → Entry → Type 0) → List Entry → List Entry → Type 0
EachAfter P earlier [] = Unit {0}
EachAfter P earlier (e ∷ es) = P earlier e × EachAfter P (earlier ++ e ∷ []) es

-- the journal is legal
abbrev pub IsLegalJournal : Setup → List Entry → Type 0
IsLegalJournal setup es = EachAfter (IsEntry setup) [] es

-- it has every turn of every lane
abbrev pub IsWhole : Setup → List Entry → Type 0
IsWhole setup es = length es ≡ length setup.seeds * setup.turns
