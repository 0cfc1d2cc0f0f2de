-- When a listing does what a plan says: by the owners and the mnemonics of its lines alone. Lines without an owner
-- are free, and so are the marks of the slots.
use Rattle.std.specs.Prelude.{◌≡◌, ℕ, ◌<◌, ◌≤◌, ◌++◌, List, [], ◌∷◌, length, map, take, suc, Option, Some, None}
use Rattle.std.specs.List.{flat_map}
use Rattle.word_program.specs.Program.{Source}
use Rattle.x86_instr.specs.declared.mnemonic.Mnemonic.{Mnemonic}
use Rattle.x86_instr.specs.Listings.{NamedLines}
use Rattle.x86_instr.specs.Mnemonics.{mnemonic_of}
use Rattle.templates.specs.Table.{mnemonics_of}
use Rattle.op_order.specs.declared.slot.Slot.{Slot}

-- an operation, and the mnemonic of a line that it owns
abbrev pub Owned : Type 0
Owned = ℕ × Mnemonic

abbrev pub owned_by : Option ℕ → Mnemonic → List Owned
owned_by None mnemonic = []
owned_by (Some op) mnemonic = (op, mnemonic) ∷ []

-- the lines of a listing that have an owner, in order
abbrev pub owned_lines : NamedLines → List Owned
owned_lines listing = flat_map (λ line. owned_by line.owner (mnemonic_of line.instr)) listing.lines

-- the lines that a slot's operation has to own, in order: those of its template
abbrev pub slot_lines : Source → Slot → List Owned
slot_lines program slot = map (λ mnemonic. (slot.op, mnemonic)) (mnemonics_of program slot.op slot.template)

-- those of all slots
abbrev pub plan_lines : Source → List Slot → List Owned
plan_lines program slots = flat_map (slot_lines program) slots

-- the listing does what the plan says
abbrev pub Realises : Source → List Slot → NamedLines → Type 0
Realises program slots listing = owned_lines listing ≡ plan_lines program slots

-- the list begins with these lines
abbrev pub BeginsWith : List Owned → List Owned → Type 0
BeginsWith all front = (rest : List Owned) × (all ≡ front ++ rest)

-- The slot with this number is the first of which the listing has other lines: it has those of the slots before it,
-- and then not those of this slot. Where it has those of all slots, and more, it is the number of slots.
pub record DiffersFirst (program : Source) (slots : List Slot) (listing : NamedLines) (number : ℕ) : Type 0 where
  pub within : number ≤ length slots
  pub before : BeginsWith (owned_lines listing) (plan_lines program (take number slots))
  pub here : number < length slots → BeginsWith (owned_lines listing) (plan_lines program (take (suc number) slots)) → ⊥
  pub over : number ≡ length slots → Realises program slots listing → ⊥
