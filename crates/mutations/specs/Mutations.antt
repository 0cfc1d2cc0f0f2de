-- Mutations: one change of a plan each, which four random words draw.
use Rattle.std.specs.Prelude.{ℕ, ◌+◌, ◌-◌, ◌<◌, ◌≤◌, ◌%◌, Bool, true, false, not, ◌==◌, List, length, map, slice_get}
use Rattle.std.specs.Prelude.{slice_index, slice_set, if◌then◌else◌}
use Rattle.std.specs.Option.{option_map_or}
use Rattle.word_operations.specs.declared.kind.Kind.{Kind}
use Rattle.word_operations.specs.declared.kind.Kind.TheVariants as kinds
use Rattle.word_program.specs.Program.{Source}
use Rattle.dependency_graph.specs.Needs.{has}
use Rattle.templates.specs.Table.{count_of}
use Rattle.op_order.specs.declared.slot.Slot.{Slot}
use Rattle.op_order.specs.Plans.{slot_at, op_at, with_slot_moved}
use Rattle.op_order.specs.Windows.{low_of, high_of, IsInWindow}
use Rattle.mutations.specs.Chains.{adds_carry, chain_of}
use Rattle.mutations.specs.declared.mutation.Draw.{Draw}
use Rattle.mutations.specs.declared.mutation.Draw.TheVariants.{One, Two}
use Rattle.mutations.specs.declared.mutation.Mutation.{Mutation}
use Rattle.mutations.specs.declared.mutation.Mutation.TheVariants.{Move, Template, Swap, Load, Chain}

-- ---- what a mutation does

-- the two words that an operation of this kind is of, beside a carry, may change places
abbrev pub commutes : Kind → Bool
commutes kinds.AddCarry = true
commutes kinds.SubBorrow = false
commutes kinds.MulX = true
commutes kinds.CMov = false
commutes kinds.Add = true
commutes kinds.Sub = false
commutes kinds.Mul = true
commutes kinds.And = true
commutes kinds.Or = true
commutes kinds.Xor = true
commutes kinds.Not = false
commutes kinds.Copy = false
commutes (kinds.Shl count) = false
commutes (kinds.Shr count) = false
commutes (kinds.Shrd count) = false

abbrev pub op_commutes : Source → ℕ → Bool
op_commutes program op = option_map_or (λ o. commutes o.kind) (slice_get program.ops op) false

abbrev pub with_template : ℕ → Slot → Slot
with_template number slot = record { op = slot.op; template = number; swap = slot.swap; load_first = slot.load_first }

abbrev pub toggle_swap : Slot → Slot
toggle_swap slot = record { op = slot.op; template = slot.template; swap = not slot.swap; load_first = slot.load_first }

abbrev pub toggle_load : Slot → Slot
toggle_load slot = record { op = slot.op; template = slot.template; swap = slot.swap; load_first = not slot.load_first }

-- the slots after a change of the one at a place
abbrev pub changed : (Slot → Slot) → List Slot → ℕ → List Slot
changed change slots at = slice_set slots at (change (slot_at slots at))

-- the slots with the mark `swap` of the one at a place turned, where its operation commutes
abbrev pub swapped : Source → List Slot → ℕ → List Slot
swapped program slots at = if op_commutes program (op_at slots at) then changed toggle_swap slots at else slots

-- the slot with this template where its operation is among these, and else as it is
abbrev pub templated_among : List ℕ → ℕ → Slot → Slot
templated_among ops number slot = if has slot.op ops then with_template number slot else slot

-- the slots with this template for each operation in the chain of the one at a place, where that is an `addcarryx`
abbrev pub chained : Source → ℕ → List Slot → ℕ → List Slot
chained program number slots at =
    if adds_carry program (op_at slots at) then map (templated_among (chain_of program (op_at slots at)) number) slots
    else slots

-- the slots after a mutation: Move takes the slot out and puts it back so that it stands at the other place; Template
-- sets the number of the template; Swap turns the mark `swap` where the operation commutes, and else changes nothing;
-- Load turns the mark `load_first`; Chain sets the number of the template of every operation in the chain of the
-- slot's operation, where that is an `addcarryx`, and else changes nothing
unfoldable pub applied : Source → Mutation → List Slot → List Slot
applied program (Move slot to) slots = with_slot_moved slots slot to
applied program (Template slot number) slots = changed (with_template number) slots slot
applied program (Swap slot) slots = swapped program slots slot
applied program (Load slot) slots = changed toggle_load slots slot
applied program (Chain slot number) slots = chained program number slots slot

-- the mutation is one of these slots: its slot is there, a slot moves within its window, a template is one of the
-- slot's operation, and that of a chain is `adcx`, 1, or `adox`, 2
unfoldable pub Fits : Source → List Slot → Mutation → Type 0
Fits program slots (Move slot to) = (slot < length slots) × IsInWindow program slots slot to
Fits program slots (Template slot number) = (slot < length slots) × (number < count_of program (op_at slots slot))
Fits program slots (Swap slot) = slot < length slots
Fits program slots (Load slot) = slot < length slots
Fits program slots (Chain slot number) = (slot < length slots) × (1 ≤ number) × (number ≤ 2)

-- ---- which mutation four words draw

-- a place in the window of a slot
abbrev pub place_drawn : Source → List Slot → ℕ → ℕ → ℕ
place_drawn program slots slot word = low_of program slots slot + word %
    (high_of program slots slot - low_of program slots slot + 1)

-- how many kinds of mutation a draw has, of which the first is numbered 0
abbrev pub kinds_of : Draw → ℕ
kinds_of One = 4
kinds_of Two = 5

-- the kinds are numbered Move 0, Template 1, Swap 2, Load 3, Chain 4
abbrev pub mutation_of : Source → List Slot → ℕ → ℕ → ℕ → Mutation
mutation_of program slots kind slot word =
    if kind == 0 then Move slot (place_drawn program slots slot word)
    else (if kind == 1 then Template slot (word % count_of program (op_at slots slot))
    else (if kind == 2 then Swap slot else (if kind == 3 then Load slot else Chain slot (1 + word % 2))))

-- the first word draws the kind, the second the slot, and the third the place or the template; the fourth is not read
unfoldable pub drawn : Source → List Slot → List ℕ → Draw → Mutation
drawn program slots words draw = mutation_of program slots (slice_index words 0 % kinds_of draw)
    (slice_index words 1 % length slots) (slice_index words 2)
