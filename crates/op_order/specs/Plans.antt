-- Plans: an order of a program's operations, and a choice for each.
use Rattle.std.specs.Prelude.{ℕ, false, List, length, map, slice_index_or}
use Rattle.std.specs.List.{insert, remove, range_with_len}
use Rattle.word_program.specs.Program.{Source}
use Rattle.op_order.specs.declared.slot.Slot.{Slot}

-- the slots in order, and for how many of them there is room
pub record SlotsWithRoom : Type 0 where
  pub slots : List Slot
  pub room : ℕ

-- ---- the opening plan

-- the slot of an operation with its first template and both marks off
abbrev pub opening_slot : ℕ → Slot
opening_slot op = record { op = op; template = 0; swap = false; load_first = false }

-- the operations in the order of the program
unfoldable pub opening_of : Source → List Slot
opening_of program = map opening_slot (range_with_len 0 (length program.ops))

-- ---- slots by their places

-- the slot at a place
abbrev pub slot_at : List Slot → ℕ → Slot
slot_at slots at = slice_index_or slots at (opening_slot 0)

-- the operation at a place
abbrev pub op_at : List Slot → ℕ → ℕ
op_at slots at = (slot_at slots at).op

-- the slot at one place is taken out, and put back so that it stands at the other
unfoldable pub with_slot_moved : List Slot → ℕ → ℕ → List Slot
with_slot_moved slots from to = insert (remove slots from) to (slot_at slots from)
