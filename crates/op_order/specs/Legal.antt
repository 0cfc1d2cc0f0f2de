-- Legal plans: those from which a listing can be made.
use Rattle.std.specs.Prelude.{◌≡◌, ℕ, ◌<◌, true, List, length, map}
use Rattle.std.specs.List.{All, range_with_len}
use Rattle.std.specs.List.Sorted.{IsPermutation}
use Rattle.word_program.specs.Program.{Source}
use Rattle.dependency_graph.specs.Needs.{is_needed}
use Rattle.templates.specs.Table.{count_of}
use Rattle.op_order.specs.declared.slot.Slot.{Slot}
use Rattle.op_order.specs.Plans.{op_at}

-- the operations in the order of their slots
abbrev pub ops_of : List Slot → List ℕ
ops_of slots = map (λ slot. slot.op) slots

pub record IsLegal (program : Source) (slots : List Slot) : Type 0 where
  -- each operation of the program has one slot
  pub order : IsPermutation (range_with_len 0 (length program.ops)) (ops_of slots)
  -- a slot stands after each one of which it needs the operation
  pub after : (i j : ℕ) → i < length slots → j < length slots
      → is_needed program (op_at slots i) (op_at slots j) ≡ true → j < i
  -- its template is one of its operation
  pub templates : All (λ slot. slot.template < count_of program slot.op) slots
