-- The preserved registers that a listing names: those that a function has to give back as it found them (System V
-- Application Binary Interface, AMD64 Architecture Processor Supplement, section 3.2.1), but for the stack pointer.
use Rattle.std.specs.Prelude.{ℕ, Bool, false, ◌||◌, ◌==◌, List, [], ◌∷◌, count_by}
use Rattle.std.specs.List.{list_any}
use Rattle.std.specs.Option.{option_map_or}
use Rattle.x86_instr.specs.declared.operand.Reg.{Reg}
use Rattle.x86_instr.specs.declared.operand.Reg.TheVariants.{Rbx, Rbp, R12, R13, R14, R15}
use Rattle.x86_instr.specs.declared.operand.Mem.{Mem}
use Rattle.x86_instr.specs.declared.operand.Rm.{Rm}
use Rattle.x86_instr.specs.declared.operand.Rm.TheVariants as rms
use Rattle.x86_instr.specs.declared.operand.Src.{Src}
use Rattle.x86_instr.specs.declared.operand.Src.TheVariants as srcs
use Rattle.x86_instr.specs.declared.instr.Instr.{Instr}
use Rattle.x86_instr.specs.declared.instr.Instr.TheVariants as instrs
use Rattle.x86_instr.specs.declared.line.Line.{Line}
use Rattle.x86_instr.specs.Registers.{number_of}

abbrev pub preserved : List Reg
preserved = Rbx ∷ Rbp ∷ R12 ∷ R13 ∷ R14 ∷ R15 ∷ []

-- ---- the registers of an instruction

abbrev pub is_same : Reg → Reg → Bool
is_same r other = number_of r == number_of other

-- the register is in a memory operand, a source, or an instruction
abbrev pub is_in_mem : Reg → Mem → Bool
is_in_mem r mem = option_map_or (λ index. is_same r index.reg) mem.index false || is_same r mem.base

abbrev pub is_in_rm : Reg → Rm → Bool
is_in_rm r (rms.Reg other) = is_same r other
is_in_rm r (rms.Mem mem) = is_in_mem r mem

abbrev pub is_in_src : Reg → Src → Bool
is_in_src r (srcs.Reg other) = is_same r other
is_in_src r (srcs.Mem mem) = is_in_mem r mem
is_in_src r (srcs.Imm n) = false

abbrev pub is_in : Reg → Instr → Bool
is_in r (instrs.Mov dst src) = is_in_rm r src || is_same r dst
is_in r (instrs.MovImm dst imm) = is_same r dst
is_in r (instrs.Store mem src) = is_in_mem r mem || is_same r src
is_in r (instrs.Lea dst mem) = is_in_mem r mem || is_same r dst
is_in r (instrs.Bin op dst src) = is_in_src r src || is_same r dst
is_in r (instrs.Test a b) = is_same r a || is_same r b
is_in r (instrs.Un op dst) = is_same r dst
is_in r (instrs.Adcx dst src) = is_in_rm r src || is_same r dst
is_in r (instrs.Adox dst src) = is_in_rm r src || is_same r dst
is_in r (instrs.Mulx hi lo src) = is_in_rm r src || (is_same r hi || is_same r lo)
is_in r (instrs.Mul src) = is_in_rm r src
is_in r (instrs.Imul dst src) = is_in_rm r src || is_same r dst
is_in r (instrs.Shl dst by) = is_same r dst
is_in r (instrs.Shr dst by) = is_same r dst
is_in r (instrs.Shrd dst src by) = is_same r dst || is_same r src
is_in r (instrs.Shlx dst src count) = is_in_rm r src || (is_same r dst || is_same r count)
is_in r (instrs.Shrx dst src count) = is_in_rm r src || (is_same r dst || is_same r count)
is_in r (instrs.Set cond dst) = is_same r dst
is_in r (instrs.Movzx dst src) = is_same r dst || is_same r src
is_in r (instrs.Cmov cond dst src) = is_in_rm r src || is_same r dst
is_in r instrs.Clc = false
is_in r instrs.Ret = false

-- ---- those of a listing

-- a line names the register, to write it, to save it, or to read it
abbrev pub is_named : List Line → Reg → Bool
is_named lines r = list_any (λ line. is_in r line.instr) lines

-- how many preserved registers the lines name
unfoldable pub preserved_count : List Line → ℕ
preserved_count lines = count_by (is_named lines) preserved
