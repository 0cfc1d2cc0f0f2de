-- The output words that a symbolic state knows, in the order of the parameters.
use Rattle.std.specs.Prelude.{ℕ, List, [], Option, if◌then◌else◌}
use Rattle.std.specs.List.{flat_map}
use Rattle.word_program.specs.Values.{is_output}
use Rattle.symbolic_state.specs.Symbols.{Array, Symbols}

-- the words of an output; none of an input
abbrev pub output_words : Array → List (Option ℕ)
output_words array = if is_output array.role then array.words else []

-- the node of each output word, where a store to it is known
abbrev pub words_written : Symbols → List (Option ℕ)
words_written y = flat_map output_words y.arrays
