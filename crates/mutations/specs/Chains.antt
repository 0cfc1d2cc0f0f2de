-- Chains of carries: an `addcarryx`, and then each time the first later one that takes the carry of the one before.
-- Carries are told by their value numbers.
use Rattle.std.specs.Prelude.{ℕ, zero, suc, ◌+◌, ◌-◌, Bool, true, false, ◌&&◌, ◌==◌, List, [], ◌∷◌, length, Option}
use Rattle.std.specs.Prelude.{slice_get}
use Rattle.std.specs.List.{find, range_with_len}
use Rattle.std.specs.Option.{option_map_or}
use Rattle.word_operations.specs.declared.kind.Kind.{Kind}
use Rattle.word_operations.specs.declared.kind.Kind.TheVariants.{AddCarry}
use Rattle.word_program.specs.declared.operation.Op.{Op}
use Rattle.word_program.specs.declared.operation.Operand.{Operand}
use Rattle.word_program.specs.declared.operation.Operand.TheVariants as operands
use Rattle.word_program.specs.Program.{Source}
use Rattle.dependency_graph.specs.Needs.{first_value}

abbrev pub is_add_carry : Kind → Bool
is_add_carry AddCarry = true
is_add_carry _ = false

-- the operation with this number is an `addcarryx`
abbrev pub adds_carry : Source → ℕ → Bool
adds_carry program op = option_map_or (λ o. is_add_carry o.kind) (slice_get program.ops op) false

-- the value number of its carry, which is its second result
abbrev pub carry_of : Source → ℕ → ℕ
carry_of program op = first_value program op + 1

-- the operand is the value with this number
abbrev pub is_value : ℕ → Operand → Bool
is_value number (operands.Literal word) = false
is_value number (operands.Input param word) = false
is_value number (operands.Value other) = other == number

-- an `addcarryx` of which the carry operand, its first, is the value with this number
abbrev pub takes_carry : ℕ → Op → Bool
takes_carry carry op = is_add_carry op.kind && option_map_or (is_value carry) (slice_get op.args 0) false

-- the operation with this number is one
abbrev pub takes_at : Source → ℕ → ℕ → Bool
takes_at program carry op = option_map_or (takes_carry carry) (slice_get program.ops op) false

-- the numbers of the operations behind one
abbrev pub later_ops : Source → ℕ → List ℕ
later_ops program op = range_with_len (op + 1) (length program.ops - (op + 1))

-- the first of them that takes the carry of this one
unfoldable pub next_of : Source → ℕ → Option ℕ
next_of program op = find (takes_at program (carry_of program op)) (later_ops program op)

-- the first operations of a chain: this one, and so many more at most
abbrev pub chain_from : Source → ℕ → ℕ → List ℕ
chain_from program zero op = op ∷ []
chain_from program (suc more) op = op ∷ option_map_or (chain_from program more) (next_of program op) []

-- the chain of an operation: it has no more operations than the program
unfoldable pub chain_of : Source → ℕ → List ℕ
chain_of program op = chain_from program (length program.ops) op
