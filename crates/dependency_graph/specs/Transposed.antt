-- How the code makes the graph; no part of a promise. Of each operation those that define its operands, in the order of
-- the operands. These lists are transposed, which gives the users, and the users are transposed, which gives the needs.
-- Transposed lists are those of the transposed relation: the one with the number m has the numbers of the lists that
-- hold m, ascending and each once.
use Rattle.std.specs.Prelude.{ℕ, ◌+◌, ◌-◌, Bool, false, ◌==◌, List, [], ◌∷◌, ◌++◌, length, map, replicate, fold}
use Rattle.std.specs.Prelude.{option_to_list, slice_get, slice_index_or, slice_set, if◌then◌else◌}
use Rattle.std.specs.List.{flat_map, filter, range_with_len}
use Rattle.std.specs.Option.{option_map_or}
use Rattle.word_program.specs.declared.operation.Op.{Op}
use Rattle.word_program.specs.declared.operation.Operand.{Operand}
use Rattle.word_program.specs.declared.operation.Operand.TheVariants as operands
use Rattle.dependency_graph.specs.Needs.{has}

-- the operation that defines each value of these operations, of which the first has this number
abbrev pub definers_from : ℕ → List Op → List ℕ
definers_from number [] = []
definers_from number (op ∷ ops) = replicate (length op.targets) number ++ definers_from (number + 1) ops

-- the operation that defines each value, by the value number
abbrev pub definers_of : List Op → List ℕ
definers_of ops = definers_from 0 ops

-- the operation that defines an operand, where it is a value
abbrev pub definer_of : List ℕ → Operand → List ℕ
definer_of definers (operands.Literal word) = []
definer_of definers (operands.Input param word) = []
definer_of definers (operands.Value number) = option_to_list (slice_get definers number)

-- the operations that define the operands of an operation, in the order of the operands
abbrev pub reads_of : List ℕ → Op → List ℕ
reads_of definers op = flat_map (definer_of definers) op.args

-- the numbers of the lists that hold this number
abbrev pub holders : List (List ℕ) → ℕ → List ℕ
holders lists number = filter (λ place. has number (slice_index_or lists place [])) (range_with_len 0 (length lists))

-- the lists transposed
unfoldable pub transposed : List (List ℕ) → List (List ℕ)
transposed lists = map (holders lists) (range_with_len 0 (length lists))

-- ---- transposing, list by list

-- the list ends with this number
abbrev pub ends_with : ℕ → List ℕ → Bool
ends_with number list = option_map_or (λ last. last == number) (slice_get list (length list - 1)) false

-- the number at the end, unless it stands there already
unfoldable pub put_last : ℕ → List ℕ → List ℕ
put_last number list = if ends_with number list then list else list ++ number ∷ []

-- the number at the end of the lists at these places
abbrev pub entered : ℕ → List (List ℕ) → List ℕ → List (List ℕ)
entered number lists places = fold (λ ls place. slice_set ls place (put_last number (slice_index_or ls place [])))
    lists places

-- the numbers of lists, of which the first has this one, at the end of the lists that they hold
abbrev pub entered_all : ℕ → List (List ℕ) → List (List ℕ) → List (List ℕ)
entered_all number lists [] = lists
entered_all number lists (places ∷ sources) = entered_all (number + 1) (entered number lists places) sources
