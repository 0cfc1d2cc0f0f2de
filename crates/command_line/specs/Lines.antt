-- Which command the words of a command line are. The words after the first are assigned as the documentation of the
-- Rust crate `clap`, version 4, says, by the definition in its specs; the rules beyond that are this project's own.
use Rattle.std.specs.Prelude.{ℕ, Bool, true, false, not, ◌&&◌, List, [], ◌∷◌, codes, Option, Some, None, is_some}
use Rattle.base.specs.Options.{◌>>=◌, guard}
use Rattle.clap.specs.Walk.{Row, first_of}
use Rattle.clap.specs.Kinds.{Kinds}
use Rattle.clap.specs.Faults.{fault_of}
use Rattle.clap.specs.Simple.{App, matches_of}
use Rattle.command_line.specs.Table.{app_of, syntax_of, command_named}
use Rattle.command_line.specs.Inputs.{inputs_or_none}
use Rattle.command_line.specs.Lanes.{are_file_names, lanes_in, lanes_command}
use Rattle.command_line.specs.declared.table.CommandName.{CommandName}
use Rattle.command_line.specs.declared.table.CommandName.TheVariants as names
use Rattle.command_line.specs.declared.command.Command.{Command}
use Rattle.command_line.specs.declared.command.Command.TheVariants.{Search, Eval, Emulate, Check, Show, Replay}

-- `clap` has nothing against the words
abbrev pub is_accepted : Kinds → Bool
is_accepted [] = true
is_accepted (fault ∷ faults) = false

-- what `clap` finds in the words of a command, where it accepts them
unfoldable pub rows : App → List (List ℕ) → Option (List Row)
rows app words = guard (is_accepted (fault_of app words)) (matches_of app words)

-- no option of a search by lanes is there
abbrev pub has_no_options : List Row → Bool
has_no_options found = not (is_some (first_of (codes "seeds") found))
    && (not (is_some (first_of (codes "workers") found)) && not (is_some (first_of (codes "turns") found)))

-- `search`, where the word JOURNAL is there with all options, or neither it nor an option is
abbrev pub search_made : List ℕ → List ℕ → Option (List ℕ) → List Row → Option Command
search_made program asm None found = guard (has_no_options found && are_file_names program asm) (Search program asm)
search_made program asm (Some journal) found = lanes_command program asm journal (lanes_in found)

-- the command that the found words make
abbrev pub made_of : CommandName → List Row → Option Command
made_of names.Search found = do
  program ← first_of (codes "PROGRAM") found
  asm ← first_of (codes "ASM") found
  search_made program asm (first_of (codes "JOURNAL") found) found
made_of names.Eval found = do
  program ← first_of (codes "PROGRAM") found
  inputs ← inputs_or_none (first_of (codes "in") found)
  Some (Eval program inputs)
made_of names.Emulate found = do
  program ← first_of (codes "PROGRAM") found
  asm ← first_of (codes "ASM") found
  inputs ← inputs_or_none (first_of (codes "in") found)
  Some (Emulate program asm inputs)
made_of names.Check found = do
  program ← first_of (codes "PROGRAM") found
  asm ← first_of (codes "ASM") found
  Some (Check program asm)
made_of names.Show found = do
  asm ← first_of (codes "ASM") found
  Some (Show asm)
made_of names.Replay found = do
  program ← first_of (codes "PROGRAM") found
  journal ← first_of (codes "JOURNAL") found
  asm ← first_of (codes "ASM") found
  Some (Replay program journal asm)

-- the command of a command line without the program's own name
abbrev pub command_of : List (List ℕ) → Option Command
command_of [] = None
command_of (first ∷ rest) = do
  command ← command_named first
  found ← rows (app_of (syntax_of command)) (first ∷ rest)
  made_of command found
