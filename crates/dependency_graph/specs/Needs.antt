-- Which operation needs which: the flow dependence of straight-line code in static single assignment form (Cytron
-- and others, 1991), where each value is a result of one operation. An operation needs those of which a result is
-- one of its operands.
use Rattle.std.specs.Prelude.{◌≡◌, ℕ, ◌+◌, Bool, false, ◌&&◌, ◌==◌, nat_lt, nat_le, List, [], length, map, take}
use Rattle.std.specs.Prelude.{slice_get}
use Rattle.std.specs.List.{filter, list_any, range_with_len}
use Rattle.std.specs.Option.{option_map_or}
use Rattle.word_program.specs.declared.operation.Operand.{Operand}
use Rattle.word_program.specs.declared.operation.Operand.TheVariants as operands
use Rattle.word_program.specs.Program.{Source}
use Rattle.word_program.specs.Values.{targets_of}
use Rattle.word_program.specs.Accepted.{IsAccepted}

-- the value number of an operation's first result: how many results the operations before it have
unfoldable pub first_value : Source → ℕ → ℕ
first_value program op = length (targets_of (take op program.ops))

-- the operands of an operation, and none where there is no such operation
abbrev pub operands_of : Source → ℕ → List Operand
operands_of program op = option_map_or (λ o. o.args) (slice_get program.ops op) []

-- the operand is a value, of which the number is at least `first` and below `end`
abbrev pub is_value_in : ℕ → ℕ → Operand → Bool
is_value_in first end (operands.Literal word) = false
is_value_in first end (operands.Input param word) = false
is_value_in first end (operands.Value number) = nat_le first number && nat_lt number end

-- the operation has a value of these numbers as an operand
abbrev pub reads_value_in : Source → ℕ → ℕ → ℕ → Bool
reads_value_in program op first end = list_any (is_value_in first end) (operands_of program op)

-- the value of this number is a result of the operation
abbrev pub defines : Source → ℕ → ℕ → Bool
defines program op value = is_value_in (first_value program op) (first_value program (op + 1)) (operands.Value value)

-- the other operation defines a value that is an operand of the operation
unfoldable pub is_needed : Source → ℕ → ℕ → Bool
is_needed program op other = reads_value_in program op (first_value program other) (first_value program (other + 1))

-- the numbers of all operations
abbrev pub all_ops : Source → List ℕ
all_ops program = range_with_len 0 (length program.ops)

-- the operations that an operation needs, ascending, each once
unfoldable pub needs_of : Source → ℕ → List ℕ
needs_of program op = filter (is_needed program op) (all_ops program)

-- the operations that need an operation, ascending, each once
unfoldable pub users_of : Source → ℕ → List ℕ
users_of program op = filter (λ user. is_needed program user op) (all_ops program)

-- the number is in the list
abbrev pub has : ℕ → List ℕ → Bool
has number list = list_any (λ other. other == number) list

-- of each operation, those that it needs and those that need it
pub record Links : Type 0 where
  pub needs : List (List ℕ)
  pub users : List (List ℕ)

-- the links of all operations of a program
abbrev pub graph_of : Source → Links
graph_of program = record {
  needs = map (needs_of program) (all_ops program);
  users = map (users_of program) (all_ops program);
}

-- these are the links of a program
pub record IsGraph (links : Links) : Type 0 where
  pub program : Source
  pub accepted : IsAccepted program
  pub is : links ≡ graph_of program
