-- A search by lanes: its names, its options, and what holds of both. The rules are this project's own.
use Rattle.std.specs.Prelude.{◌≢◌, ℕ, ◌*◌, ◌≤◌, Bool, not, ◌&&◌, nat_le, List, codes, length, Option}
use Rattle.std.specs.Str.{bytes_eq}
use Rattle.base.specs.Options.{◌>>=◌, guard}
use Rattle.clap.specs.Walk.{Row, first_of}
use Rattle.command_line.specs.Numbers.{number_within, seeds_of}
use Rattle.command_line.specs.declared.limits.TheConstants.{MAX_SEEDS, MAX_WORKERS, MAX_TURNS, MAX_OFFERS}
use Rattle.command_line.specs.declared.lanes.Lanes.{Lanes}
use Rattle.command_line.specs.declared.command.Command.{Command}
use Rattle.command_line.specs.declared.command.Command.TheVariants.{SearchLanes}

-- ---- the names

-- two texts that are not the same, of which the second is a name for a file that is written: not `-`
abbrev pub are_file_names : List ℕ → List ℕ → Bool
are_file_names read written = not (bytes_eq read written) && not (bytes_eq written (codes "-"))

-- three texts of which no two are the same, and the last two are names for files that are written
abbrev pub are_lane_names : List ℕ → List ℕ → List ℕ → Bool
are_lane_names program asm journal =
    are_file_names program asm && (are_file_names program journal && not (bytes_eq asm journal))

-- ---- the options

-- so many turns for each of so many lanes make no more offers than a search may have
abbrev pub are_few : ℕ → ℕ → Bool
are_few lanes turns = nat_le (lanes * turns) MAX_OFFERS

-- what the options say: `--seeds`, `--workers` and `--turns`
unfoldable pub lanes_of : List ℕ → List ℕ → List ℕ → Option Lanes
lanes_of seeds_text workers_text turns_text = do
  seeds ← seeds_of seeds_text
  workers ← number_within 1 MAX_WORKERS workers_text
  turns ← number_within 0 MAX_TURNS turns_text
  guard (are_few (length seeds) turns) (record { seeds = seeds; workers = workers; turns = turns })

-- the same, where all three options are there
unfoldable pub lanes_in : List Row → Option Lanes
lanes_in found = do
  seeds ← first_of (codes "seeds") found
  workers ← first_of (codes "workers") found
  turns ← first_of (codes "turns") found
  lanes_of seeds workers turns

-- ---- the command

abbrev pub search_lanes : List ℕ → List ℕ → List ℕ → Lanes → Command
search_lanes program asm journal lanes = SearchLanes program asm journal lanes.seeds lanes.workers lanes.turns

-- the search with these names and what the options say
abbrev pub lanes_command : List ℕ → List ℕ → List ℕ → Option Lanes → Option Command
lanes_command program asm journal options =
    options >>= (λ lanes. guard (are_lane_names program asm journal) (search_lanes program asm journal lanes))

-- ---- what holds of each such command

-- no two of a search's names are the same
abbrev pub AreApart : Command → Type 0
AreApart (SearchLanes program asm journal seeds workers turns) =
    (program ≢ asm) × (program ≢ journal) × (asm ≢ journal)
AreApart command = Unit {0}

abbrev pub AreWithin : List ℕ → ℕ → ℕ → Type 0
AreWithin seeds workers turns = (1 ≤ length seeds) × (length seeds ≤ MAX_SEEDS) × (1 ≤ workers)
    × (workers ≤ MAX_WORKERS) × (turns ≤ MAX_TURNS) × (length seeds * turns ≤ MAX_OFFERS)

-- the numbers of a search keep the limits
abbrev pub IsWithin : Command → Type 0
IsWithin (SearchLanes program asm journal seeds workers turns) = AreWithin seeds workers turns
IsWithin command = Unit {0}
