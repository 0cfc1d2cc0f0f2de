-- The commands, as tables: which calls of the shelf each makes, what it means, and why it is refused. A further
-- command is one row of each.
use Rattle.std.specs.Prelude.{ℕ, List, [], ◌∷◌, Option, Some, None}
use Rattle.base.specs.Options.{◌>>=◌}
use Rattle.command_frame.specs.declared.format.Format.TheVariants as formats
use Rattle.command_frame.specs.declared.status.Status.{Status}
use Rattle.command_frame.specs.Change.{Change}
use Rattle.command_frame.specs.Files.{Load, Content}
use Rattle.command_frame.specs.Writes.{Output}
use Rattle.command_frame.specs.Ends.{Calls, Ends}
use Rattle.command_line.specs.declared.command.Command.{Command}
use Rattle.command_line.specs.declared.command.Command.TheVariants as commands
use Rattle.command_line.specs.Lines.{command_of}
use Rattle.search_top.specs.Search.{Files, SearchMeans, SearchRefuses, Succeeds}
use Rattle.search_top.specs.Lanes.{Lanes, LanesMeans, LanesRefuses, LanesSucceed}
use Rattle.search_top.specs.Eval.{EvalMeans, EvalRefuses}
use Rattle.search_top.specs.Emulate.{EmulateMeans, EmulateRefuses}
use Rattle.search_top.specs.Check.{CheckMeans, CheckRefuses}
use Rattle.search_top.specs.Show.{ShowMeans, ShowRefuses}
use Rattle.search_top.specs.Replay.{ReplayMeans, ReplayRefuses}

-- a file that is read as a program, and one that is read as a listing
abbrev pub program_in : List ℕ → Load
program_in name = record { name = name; format = formats.Program }

abbrev pub listing_in : List ℕ → Load
listing_in name = record { name = name; format = formats.Listing }

-- one that is read as a journal
abbrev pub journal_in : List ℕ → Load
journal_in name = record { name = name; format = formats.Journal }

-- a program together with the digest of its file
abbrev pub digested_in : List ℕ → Load
digested_in name = record { name = name; format = formats.DigestedProgram }

-- the files that are loaded, and those that are stored; each command says one word last
abbrev pub calls_of : Command → Calls
calls_of (commands.Search program asm) = record { loads = program_in program ∷ []; stores = asm ∷ [] }
calls_of (commands.SearchLanes program asm journal seeds workers turns) = record {
  loads = digested_in program ∷ [];
  stores = asm ∷ journal ∷ [];
}
calls_of (commands.Eval program inputs) = record { loads = program_in program ∷ []; stores = [] }
calls_of (commands.Emulate program asm inputs) = record {
  loads = program_in program ∷ listing_in asm ∷ [];
  stores = [];
}
calls_of (commands.Check program asm) = record {
  loads = program_in program ∷ listing_in asm ∷ [];
  stores = [];
}
calls_of (commands.Show asm) = record { loads = listing_in asm ∷ []; stores = [] }
calls_of (commands.Replay program journal asm) = record {
  loads = digested_in program ∷ journal_in journal ∷ listing_in asm ∷ [];
  stores = [];
}

-- what it makes of what was read
abbrev pub Means : Command → List Content → Output → Type 0
Means (commands.Search program asm) = SearchMeans
Means (commands.SearchLanes program asm journal seeds workers turns) = LanesMeans seeds turns
Means (commands.Eval program inputs) = EvalMeans inputs
Means (commands.Emulate program asm inputs) = EmulateMeans inputs
Means (commands.Check program asm) = CheckMeans
Means (commands.Show asm) = ShowMeans
Means (commands.Replay program journal asm) = ReplayMeans

-- why it makes nothing of it
abbrev pub Refuses : Command → List Content → Status → Type 0
Refuses (commands.Search program asm) = SearchRefuses
Refuses (commands.SearchLanes program asm journal seeds workers turns) = LanesRefuses
Refuses (commands.Eval program inputs) = EvalRefuses inputs
Refuses (commands.Emulate program asm inputs) = EmulateRefuses inputs
Refuses (commands.Check program asm) = CheckRefuses
Refuses (commands.Show asm) = ShowRefuses
Refuses (commands.Replay program journal asm) = ReplayRefuses

-- the command ends so
abbrev pub EndsAs : Command → Change → Status → Type 0
EndsAs command change status = Ends (calls_of command) (Means command) (Refuses command) change status

-- ---- command lines

abbrev pub only_search : Command → Option Command
only_search (commands.Search program asm) = Some (commands.Search program asm)
only_search (commands.SearchLanes program asm journal seeds workers turns) =
    Some (commands.SearchLanes program asm journal seeds workers turns)
only_search command = None

-- the command of a command line of `search`
abbrev pub search_command : List (List ℕ) → Option Command
search_command words = command_of words >>= only_search

abbrev pub other_than_search : Command → Option Command
other_than_search (commands.Search program asm) = None
other_than_search (commands.SearchLanes program asm journal seeds workers turns) = None
other_than_search command = Some command

-- the command of a command line of another command
abbrev pub other_command : List (List ℕ) → Option Command
other_command words = command_of words >>= other_than_search

-- what it is that a search succeeds
abbrev pub SearchSucceeds : Command → Change → Type 0
SearchSucceeds (commands.Search program asm) change = Succeeds (record { program = program; asm = asm }) change
SearchSucceeds (commands.SearchLanes program asm journal seeds workers turns) change = LanesSucceed (record {
  program = program;
  asm = asm;
  journal = journal;
  seeds = seeds;
  turns = turns;
}) change
SearchSucceeds command change = Unit {0}
