-- The uses of a value in a plan, and how far the next one is (Belady, 1966: of the pages in memory the one goes whose
-- next use is farthest).
use Rattle.std.specs.Prelude.{◌≡◌, ◌<◌, ◌≤◌, ℕ, ◌+◌, Bool, true, false, ◌&&◌, ◌||◌, ◌==◌, nat_lt, nat_le, List, []}
use Rattle.std.specs.Prelude.{length, map, Option}
use Rattle.std.specs.Prelude.{slice_index_or}
use Rattle.std.specs.List.{filter, find, range_with_len}
use Rattle.std.specs.Option.{option_map_or}
use Rattle.word_program.specs.Program.{Source}
use Rattle.word_program.specs.Values.{targets_of}
use Rattle.dependency_graph.specs.Needs.{reads_value_in}
use Rattle.op_order.specs.declared.slot.Slot.{Slot}
use Rattle.op_order.specs.Plans.{op_at}

-- the operation of a slot has the value as an operand
abbrev pub reads_at : Source → List Slot → ℕ → ℕ → Bool
reads_at program slots value at = reads_value_in program (op_at slots at) value (value + 1)

-- the slots of a plan, ascending, whose operation has the value as an operand
unfoldable pub uses_of : Source → List Slot → ℕ → List ℕ
uses_of program slots value = filter (reads_at program slots value) (range_with_len 0 (length slots))

-- the same of each value
abbrev pub all_uses : Source → List Slot → List (List ℕ)
all_uses program slots = map (uses_of program slots) (range_with_len 0 (length (targets_of program.ops)))

-- the slots that read a value, by its number
abbrev pub uses_at : List (List ℕ) → ℕ → List ℕ
uses_at uses value = slice_index_or uses value []

-- the first of these slots that is not before the slot `now`
abbrev pub next_use : List ℕ → ℕ → Option ℕ
next_use uses now = find (λ at. nat_le now at) uses

-- the same, and 65,536, which is past every slot, where there is none
abbrev pub distance : List ℕ → ℕ → ℕ
distance uses now = option_map_or (λ at. at) (next_use uses now) 65536

-- one number is farther than another one, or as far, and its value has the greater number
abbrev pub is_past : ℕ → ℕ → ℕ → ℕ → Bool
is_past next value other_next other = nat_lt other_next next || (other_next == next && nat_lt other value)

-- the next use of a value is farther than that of another one, or as far, and the value has the greater number
abbrev pub is_farther : List (List ℕ) → ℕ → ℕ → ℕ → Bool
is_farther uses now value other =
    is_past (distance (uses_at uses value) now) value (distance (uses_at uses other) now) other

-- the first slot of the plan, from `now` on, that reads the value
pub record IsFirstRead (program : Source) (slots : List Slot) (value now at : ℕ) : Type 0 where
  pub within : at < length slots
  pub not_before : now ≤ at
  pub reads : reads_at program slots value at ≡ true
  pub first : (other : ℕ) → now ≤ other → other < at → reads_at program slots value other ≡ false
