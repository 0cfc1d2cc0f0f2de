-- The ranges that the types of instructions and lines keep (Intel Software Developer's Manual, volume 2,
-- section 2.2.1 on displacements and immediates at 64-bit operand size, beside the ranges of `Ranges`).
use Rattle.std.specs.Prelude.{◌≡◌, ◌<◌, ◌^◌, ℕ, true, List, [], ◌∷◌, Option, Some, None, ℤ, pos, negsuc}
use Rattle.base.specs.declared.limits.TheConstants.{MAX_OPERATIONS}
use Rattle.x86_instr.specs.declared.operand.Index.{Index}
use Rattle.x86_instr.specs.declared.operand.Mem.{Mem}
use Rattle.x86_instr.specs.declared.operand.Rm.{Rm}
use Rattle.x86_instr.specs.declared.operand.Rm.TheVariants as rms
use Rattle.x86_instr.specs.declared.operand.Src.{Src}
use Rattle.x86_instr.specs.declared.operand.Src.TheVariants as srcs
use Rattle.x86_instr.specs.declared.instr.Instr.{Instr}
use Rattle.x86_instr.specs.declared.instr.Instr.TheVariants as instrs
use Rattle.x86_instr.specs.declared.line.Line.{Line}
use Rattle.x86_instr.specs.Ranges.{is_shift_count, is_scale, is_index_reg}

-- from -2^31 to 2^31 - 1
abbrev pub FitsSmall : ℤ → Type 0
FitsSmall (pos n) = n < 2 ^ 31
FitsSmall (negsuc n) = n < 2 ^ 31

abbrev pub FitsIndex : Option Index → Type 0
FitsIndex None = Unit {0}
FitsIndex (Some index) = (is_index_reg index.reg ≡ true) × (is_scale index.scale ≡ true)

abbrev pub FitsMem : Mem → Type 0
FitsMem mem = FitsIndex mem.index × FitsSmall mem.disp

abbrev pub FitsRm : Rm → Type 0
FitsRm (rms.Reg r) = Unit {0}
FitsRm (rms.Mem mem) = FitsMem mem

abbrev pub FitsSrc : Src → Type 0
FitsSrc (srcs.Reg r) = Unit {0}
FitsSrc (srcs.Mem mem) = FitsMem mem
FitsSrc (srcs.Imm n) = FitsSmall n

abbrev pub FitsInstr : Instr → Type 0
FitsInstr (instrs.Mov dst src) = FitsRm src
FitsInstr (instrs.MovImm dst imm) = imm < 2 ^ 64
FitsInstr (instrs.Store mem src) = FitsMem mem
FitsInstr (instrs.Lea dst mem) = FitsMem mem
FitsInstr (instrs.Bin op dst src) = FitsSrc src
FitsInstr (instrs.Test a b) = Unit {0}
FitsInstr (instrs.Un op dst) = Unit {0}
FitsInstr (instrs.Adcx dst src) = FitsRm src
FitsInstr (instrs.Adox dst src) = FitsRm src
FitsInstr (instrs.Mulx hi lo src) = FitsRm src
FitsInstr (instrs.Mul src) = FitsRm src
FitsInstr (instrs.Imul dst src) = FitsRm src
FitsInstr (instrs.Shl dst by) = is_shift_count by ≡ true
FitsInstr (instrs.Shr dst by) = is_shift_count by ≡ true
FitsInstr (instrs.Shrd dst src by) = is_shift_count by ≡ true
FitsInstr (instrs.Shlx dst src count) = FitsRm src
FitsInstr (instrs.Shrx dst src count) = FitsRm src
FitsInstr (instrs.Set cond dst) = Unit {0}
FitsInstr (instrs.Movzx dst src) = Unit {0}
FitsInstr (instrs.Cmov cond dst src) = FitsRm src
FitsInstr instrs.Clc = Unit {0}
FitsInstr instrs.Ret = Unit {0}

abbrev pub FitsOwner : Option ℕ → Type 0
FitsOwner None = Unit {0}
FitsOwner (Some op) = op < MAX_OPERATIONS

abbrev pub FitsLines : List Line → Type 0
FitsLines [] = Unit {0}
FitsLines (line ∷ lines) = FitsInstr line.instr × FitsOwner line.owner × FitsLines lines
