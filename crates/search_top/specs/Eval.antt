-- `eval`: the outputs of a program on a list of input words.
use Rattle.std.specs.Prelude.{◌≡◌, ℕ, List, [], ◌∷◌}
use Rattle.word_program.specs.Program.{Source}
use Rattle.word_program.specs.Values.{input_bounds, AreWithin, outputs}
use Rattle.word_program.specs.declared.evaluation.EvalFault.TheVariants.{Count, OutOfBounds}
use Rattle.word_program.specs.Evaluates.{Refuses}
use Rattle.command_frame.specs.declared.status.Status.{Status}
use Rattle.command_frame.specs.declared.status.Status.TheVariants as statuses
use Rattle.command_frame.specs.Files.{Content, Program}
use Rattle.command_frame.specs.Writes.{Output, says}
use Rattle.search_top.specs.Outputs.{output_lines}

-- the lines of the outputs on these inputs
abbrev pub lines_of : Source → List ℕ → List ℕ
lines_of program inputs = output_lines program.params (outputs program inputs)

-- the inputs are within the program's bounds, and the lines of its outputs are said
abbrev pub EvalMeans : List ℕ → List Content → Output → Type 0
EvalMeans inputs (Program program ∷ []) output = AreWithin inputs (input_bounds program.params)
    × (output ≡ says (lines_of program inputs))
EvalMeans inputs contents output = ⊥

-- there are other than so many inputs, or one is outside its bounds
abbrev pub EvalRefuses : List ℕ → List Content → Status → Type 0
EvalRefuses inputs (Program program ∷ []) (statuses.Inputs given wanted) = Refuses program inputs (Count given wanted)
EvalRefuses inputs (Program program ∷ []) (statuses.OutOfBounds word) = Refuses program inputs (OutOfBounds word)
EvalRefuses inputs contents status = ⊥
