-- What an instruction touches in a state: the one cell of the memory that it reads or writes, and the registers that
-- it writes (Intel Software Developer's Manual, volume 2, under each instruction's name).
use Rattle.std.specs.Prelude.{ℕ, List, [], ◌∷◌, Option, Some, None}
use Rattle.x86_instr.specs.declared.access.Access.{Access}
use Rattle.x86_instr.specs.declared.access.Access.TheVariants as accesses
use Rattle.x86_instr.specs.declared.operand.Reg.{Reg}
use Rattle.x86_instr.specs.declared.operand.Reg.TheVariants.{Rax, Rdx}
use Rattle.x86_instr.specs.declared.instr.Bin.{Bin}
use Rattle.x86_instr.specs.declared.instr.Bin.TheVariants.{Cmp}
use Rattle.x86_instr.specs.declared.instr.Instr.{Instr}
use Rattle.x86_instr.specs.declared.instr.Instr.TheVariants as instrs
use Rattle.x86_instr.specs.Access.{access_of}
use Rattle.x86_meaning.specs.declared.state.State.{State}
use Rattle.x86_meaning.specs.Machine.{effective_address}

-- ---- the cell

-- no cell, or the cell at an address, read or written
pub data Touched : Type 0 where
  NoCell : Touched
  ReadCell : ℕ → Touched
  WrittenCell : ℕ → Touched

-- what an access touches in a state
abbrev pub touched_by : State → Access → Touched
touched_by s accesses.None = NoCell
touched_by s (accesses.Read mem) = ReadCell (effective_address s mem)
touched_by s (accesses.Write mem) = WrittenCell (effective_address s mem)

-- what an instruction touches in a state
abbrev pub touched : Instr → State → Touched
touched i s = touched_by s (access_of i)

-- the touched address
abbrev pub touched_address : Touched → Option ℕ
touched_address NoCell = None
touched_address (ReadCell address) = Some address
touched_address (WrittenCell address) = Some address

-- the address that is written
abbrev pub written_address : Touched → Option ℕ
written_address NoCell = None
written_address (ReadCell address) = None
written_address (WrittenCell address) = Some address

-- ---- the registers that are written, the last one first

abbrev pub bin_registers : Bin → Reg → List Reg
bin_registers Cmp dst = []
bin_registers _ dst = dst ∷ []

abbrev pub registers_written : Instr → List Reg
registers_written (instrs.Mov dst src) = dst ∷ []
registers_written (instrs.MovImm dst imm) = dst ∷ []
registers_written (instrs.Store mem src) = []
registers_written (instrs.Lea dst mem) = dst ∷ []
registers_written (instrs.Bin op dst src) = bin_registers op dst
registers_written (instrs.Test a b) = []
registers_written (instrs.Un op dst) = dst ∷ []
registers_written (instrs.Adcx dst src) = dst ∷ []
registers_written (instrs.Adox dst src) = dst ∷ []
registers_written (instrs.Mulx hi lo src) = hi ∷ lo ∷ []
registers_written (instrs.Mul src) = Rax ∷ Rdx ∷ []
registers_written (instrs.Imul dst src) = dst ∷ []
registers_written (instrs.Shl dst by) = dst ∷ []
registers_written (instrs.Shr dst by) = dst ∷ []
registers_written (instrs.Shrd dst src by) = dst ∷ []
registers_written (instrs.Shlx dst src count) = dst ∷ []
registers_written (instrs.Shrx dst src count) = dst ∷ []
registers_written (instrs.Set cond dst) = dst ∷ []
registers_written (instrs.Movzx dst src) = dst ∷ []
registers_written (instrs.Cmov cond dst src) = dst ∷ []
registers_written instrs.Clc = []
registers_written instrs.Ret = []
