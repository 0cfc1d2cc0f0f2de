-- The window of a slot: the places between the last operation that its operation needs and the first that needs
-- its operation.
use Rattle.std.specs.Prelude.{ℕ, ◌<◌, ◌≤◌, ◌+◌, ◌-◌, zero, suc, Bool, List, [], ◌∷◌, if◌then◌else◌}
use Rattle.std.specs.List.{position_or_len}
use Rattle.word_program.specs.declared.operation.Operand.{Operand}
use Rattle.word_program.specs.declared.operation.Operand.TheVariants as operands
use Rattle.word_program.specs.Program.{Source}
use Rattle.dependency_graph.specs.Needs.{first_value, is_needed, is_value_in}
use Rattle.op_order.specs.declared.slot.Slot.{Slot}
use Rattle.op_order.specs.Plans.{op_at}

-- how many slots a list has up to the last one that passes, where behind its first slot there are so many
abbrev pub through_last : Bool → ℕ → ℕ
through_last passes zero = if passes then 1 else 0
through_last passes (suc behind) = suc (suc behind)

-- one past the last place of a slot that passes, or 0 where none does
abbrev pub past_last : (Slot → Bool) → List Slot → ℕ
past_last test [] = 0
past_last test (slot ∷ slots) = through_last (test slot) (past_last test slots)

-- one past the last place of an operation that the slot at a place needs, or 0
unfoldable pub low_of : Source → List Slot → ℕ → ℕ
low_of program slots at = past_last (λ slot. is_needed program (op_at slots at) slot.op) slots

-- one before the first place of an operation that needs the slot at a place, or the last place
unfoldable pub high_of : Source → List Slot → ℕ → ℕ
high_of program slots at = position_or_len (λ slot. is_needed program slot.op (op_at slots at)) slots - 1

-- the place is in the window of the slot
pub record IsInWindow (program : Source) (slots : List Slot) (at to : ℕ) : Type 0 where
  pub low : low_of program slots at ≤ to
  pub high : to ≤ high_of program slots at

-- ---- one operand

-- the operation gives the operand: it is a value that the operation defines
abbrev pub defines_operand : Source → ℕ → Operand → Bool
defines_operand program op operand = is_value_in (first_value program op) (first_value program (op + 1)) operand

-- the operand is no value, or one of so many
abbrev pub IsDefinedAmong : ℕ → Operand → Type 0
IsDefinedAmong values (operands.Literal word) = Unit {0}
IsDefinedAmong values (operands.Input param word) = Unit {0}
IsDefinedAmong values (operands.Value number) = number < values
