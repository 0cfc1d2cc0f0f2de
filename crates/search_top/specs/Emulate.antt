-- `emulate`: the run of a listing from the stated start state, and the words that it leaves in the output arrays.
use Rattle.std.specs.Prelude.{◌≡◌, ℕ, zero, suc, ◌+◌, ◌*◌, ◌<◌, List, [], ◌∷◌, ◌++◌, length, IsSome, if◌then◌else◌}
use Rattle.std.specs.Option.{option_map_or}
use Rattle.std.specs.FinMap as map
use Rattle.word_program.specs.declared.parameter.Param.{Param}
use Rattle.word_program.specs.Program.{Source}
use Rattle.word_program.specs.Values.{is_output, input_bounds, AreWithin}
use Rattle.word_program.specs.declared.evaluation.EvalFault.TheVariants.{Count, OutOfBounds}
use Rattle.word_program.specs.Evaluates.{Refuses}
use Rattle.x86_instr.specs.declared.line.Line.{Line}
use Rattle.x86_meaning.specs.declared.state.State.{State}
use Rattle.x86_meaning.specs.Machine.{Cells}
use Rattle.x86_meaning.specs.Runs.{Outcome, Ended, Stuck, run_from}
use Rattle.x86_meaning.specs.Start.{output_words}
use Rattle.x86_meaning.specs.Stated.{IsStated, array_address}
use Rattle.command_frame.specs.declared.status.Status.{Status}
use Rattle.command_frame.specs.declared.status.Status.TheVariants as statuses
use Rattle.command_frame.specs.Files.{Content, Program, Listing}
use Rattle.command_frame.specs.Writes.{Output, says}
use Rattle.search_top.specs.Outputs.{output_lines}

-- ---- the words in the output arrays

-- the word in a cell, and 0 where there is none
abbrev pub cell_word : Cells → ℕ → ℕ
cell_word cells address = option_map_or (λ word. word) (map.get cells address) 0

-- the words in so many cells from an address on
unfoldable pub words_at : Cells → ℕ → ℕ → List ℕ
words_at cells address zero = []
words_at cells address (suc n) = words_at cells address n ++ (cell_word cells (address + 8 * n) ∷ [])

-- the words in the output arrays of parameters of which the first has this number
abbrev pub words_from : Cells → ℕ → List Param → List ℕ
words_from cells number [] = []
words_from cells number (p ∷ ps) =
    if is_output p.role then words_at cells (array_address number) (length p.bounds) ++ words_from cells (number + 1) ps
    else words_from cells (number + 1) ps

-- all cells of the output arrays are there
abbrev pub HasOutputs : List Param → Cells → Type 0
HasOutputs params cells = (param word : ℕ) → word < output_words params param
    → IsSome (map.get cells (array_address param + 8 * word))

-- ---- the run

-- the inputs are within the program's bounds, and the run of the listing with these lines from the stated start
-- state has this outcome
pub record RunsTo (program : Source) (lines : List Line) (inputs : List ℕ) (outcome : Outcome) : Type 0 where
  pub within : AreWithin inputs (input_bounds program.params)
  pub start : State
  pub stated : IsStated program lines inputs start
  pub ends : run_from 1 lines start ≡ outcome

-- the run ends, and the text tells the words that it leaves in the output arrays, all of whose cells are there
pub record Tells (program : Source) (lines : List Line) (inputs text : List ℕ) : Type 0 where
  pub last : State
  pub runs : RunsTo program lines inputs (Ended last)
  pub there : HasOutputs program.params last.cells
  pub tells : text ≡ output_lines program.params (words_from last.cells 0 program.params)

-- the run is stuck at this line, counted from 1
pub record IsStuck (program : Source) (lines : List Line) (inputs : List ℕ) (line : ℕ) : Type 0 where
  pub last : State
  pub runs : RunsTo program lines inputs (Stuck line last)

-- ---- the command

-- the text that tells what the run leaves is said
abbrev pub EmulateMeans : List ℕ → List Content → Output → Type 0
EmulateMeans inputs (Program program ∷ Listing listing ∷ []) output = (output ≡ says output.word)
    × Tells program listing.lines inputs output.word
EmulateMeans inputs contents output = ⊥

-- the run is stuck, there are other than so many inputs, or one is outside its bounds
abbrev pub EmulateRefuses : List ℕ → List Content → Status → Type 0
EmulateRefuses inputs (Program program ∷ Listing listing ∷ []) (statuses.Stuck line) =
    IsStuck program listing.lines inputs line
EmulateRefuses inputs (Program program ∷ Listing listing ∷ []) (statuses.Inputs given wanted) =
    Refuses program inputs (Count given wanted)
EmulateRefuses inputs (Program program ∷ Listing listing ∷ []) (statuses.OutOfBounds word) =
    Refuses program inputs (OutOfBounds word)
EmulateRefuses inputs contents status = ⊥
