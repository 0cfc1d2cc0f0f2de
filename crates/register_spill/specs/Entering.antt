-- How the code collects the uses; no part of a promise. It puts each slot at the end of the lists of the values that
-- the slot's operation reads.
use Rattle.std.specs.Prelude.{ℕ, ◌+◌, List, [], ◌∷◌, fold, slice_get, slice_set}
use Rattle.std.specs.List.{AllByRecursion}
use Rattle.std.specs.Option.{option_map_or}
use Rattle.word_program.specs.declared.operation.Op.{Op}
use Rattle.word_program.specs.declared.operation.Operand.{Operand}
use Rattle.word_program.specs.declared.operation.Operand.TheVariants as operands
use Rattle.dependency_graph.specs.Transposed.{put_last}
use Rattle.op_order.specs.declared.slot.Slot.{Slot}
use Rattle.op_order.specs.Windows.{IsDefinedAmong}
use Rattle.register_spill.specs.Uses.{uses_at}

-- each value that an operation reads is one of so many
abbrev pub AreOpsWithin : ℕ → List Op → Type 0
AreOpsWithin values ops = AllByRecursion (λ op. AllByRecursion (IsDefinedAmong values) op.args) ops

abbrev pub entered_one : ℕ → List (List ℕ) → Operand → List (List ℕ)
entered_one at uses (operands.Literal word) = uses
entered_one at uses (operands.Input param word) = uses
entered_one at uses (operands.Value value) = slice_set uses value (put_last at (uses_at uses value))

abbrev pub entered : ℕ → List (List ℕ) → List Operand → List (List ℕ)
entered at uses args = fold (entered_one at) uses args

-- the operands of an operation, and none where there is no such operation
abbrev pub args_of : List Op → ℕ → List Operand
args_of ops op = option_map_or (λ o. o.args) (slice_get ops op) []

-- slots of which the first has this number
abbrev pub entered_all : List Op → ℕ → List (List ℕ) → List Slot → List (List ℕ)
entered_all ops at uses [] = uses
entered_all ops at uses (slot ∷ slots) = entered_all ops (at + 1) (entered at uses (args_of ops slot.op)) slots
