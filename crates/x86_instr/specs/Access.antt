-- The word of the memory that an instruction reads or writes (Intel Software Developer's Manual, volume 2, under
-- each instruction's name). LEA computes an address and accesses nothing; CMOVcc reads a source in memory whether
-- its condition holds or not; RET reads no cell here, since the run ends there.
use Rattle.x86_instr.specs.declared.operand.Rm.{Rm}
use Rattle.x86_instr.specs.declared.operand.Rm.TheVariants as rms
use Rattle.x86_instr.specs.declared.operand.Src.{Src}
use Rattle.x86_instr.specs.declared.operand.Src.TheVariants as srcs
use Rattle.x86_instr.specs.declared.instr.Instr.{Instr}
use Rattle.x86_instr.specs.declared.instr.Instr.TheVariants as instrs
use Rattle.x86_instr.specs.declared.access.Access.{Access}
use Rattle.x86_instr.specs.declared.access.Access.TheVariants as accesses

abbrev pub rm_access : Rm → Access
rm_access (rms.Reg r) = accesses.None
rm_access (rms.Mem mem) = accesses.Read mem

abbrev pub src_access : Src → Access
src_access (srcs.Reg r) = accesses.None
src_access (srcs.Mem mem) = accesses.Read mem
src_access (srcs.Imm n) = accesses.None

abbrev pub access_of : Instr → Access
access_of (instrs.Mov dst src) = rm_access src
access_of (instrs.MovImm dst imm) = accesses.None
access_of (instrs.Store mem src) = accesses.Write mem
access_of (instrs.Lea dst mem) = accesses.None
access_of (instrs.Bin op dst src) = src_access src
access_of (instrs.Test a b) = accesses.None
access_of (instrs.Un op dst) = accesses.None
access_of (instrs.Adcx dst src) = rm_access src
access_of (instrs.Adox dst src) = rm_access src
access_of (instrs.Mulx hi lo src) = rm_access src
access_of (instrs.Mul src) = rm_access src
access_of (instrs.Imul dst src) = rm_access src
access_of (instrs.Shl dst by) = accesses.None
access_of (instrs.Shr dst by) = accesses.None
access_of (instrs.Shrd dst src by) = accesses.None
access_of (instrs.Shlx dst src count) = rm_access src
access_of (instrs.Shrx dst src count) = rm_access src
access_of (instrs.Set cond dst) = accesses.None
access_of (instrs.Movzx dst src) = accesses.None
access_of (instrs.Cmov cond dst src) = rm_access src
access_of instrs.Clc = accesses.None
access_of instrs.Ret = accesses.None
