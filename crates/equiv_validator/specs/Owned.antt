-- How the code compares a listing with a plan, part by part; no part of a promise.
use Rattle.std.specs.Prelude.{◌≡◌, ℕ, ◌<◌, List, ◌++◌, length, map, take, suc}
use Rattle.std.specs.List.{flat_map}
use Rattle.word_program.specs.Program.{Source}
use Rattle.x86_instr.specs.declared.line.Line.{Line}
use Rattle.x86_instr.specs.declared.mnemonic.Mnemonic.{Mnemonic}
use Rattle.x86_instr.specs.Mnemonics.{mnemonic_of}
use Rattle.op_order.specs.declared.slot.Slot.{Slot}
use Rattle.op_order.specs.Realises.{BeginsWith, Owned, owned_by, plan_lines}

-- the lines that have an owner, in order
abbrev pub owned_in : List Line → List Owned
owned_in lines = flat_map (λ line. owned_by line.owner (mnemonic_of line.instr)) lines

-- the owned lines are these, and then those of the lines that are left
abbrev pub Leaves : List Line → List Owned → List Line → Type 0
Leaves lines front left = owned_in lines ≡ front ++ owned_in left

-- the owned lines do not begin with these
abbrev pub Lacks : List Line → List Owned → Type 0
Lacks lines front = BeginsWith (owned_in lines) front → ⊥

-- the lines that an operation has to own for these mnemonics
abbrev pub lines_by : ℕ → List Mnemonic → List Owned
lines_by op mnemonics = map (λ mnemonic. (op, mnemonic)) mnemonics

-- this slot is the first of which the owned lines are not those that it has to own
pub record IsFirstOff (program : Source) (slots : List Slot) (lines : List Line) (number : ℕ) : Type 0 where
  pub within : number < length slots
  pub before : BeginsWith (owned_in lines) (plan_lines program (take number slots))
  pub here : Lacks lines (plan_lines program (take (suc number) slots))
