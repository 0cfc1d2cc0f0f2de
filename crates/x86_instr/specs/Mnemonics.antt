-- The mnemonic of each instruction (Intel Software Developer's Manual, volume 2).
use Rattle.x86_instr.specs.declared.instr.Cond.{Cond}
use Rattle.x86_instr.specs.declared.instr.Cond.TheVariants as conds
use Rattle.x86_instr.specs.declared.instr.Bin.{Bin}
use Rattle.x86_instr.specs.declared.instr.Bin.TheVariants as bins
use Rattle.x86_instr.specs.declared.instr.Un.{Un}
use Rattle.x86_instr.specs.declared.instr.Un.TheVariants as uns
use Rattle.x86_instr.specs.declared.instr.Instr.{Instr}
use Rattle.x86_instr.specs.declared.instr.Instr.TheVariants as instrs
use Rattle.x86_instr.specs.declared.mnemonic.Mnemonic.{Mnemonic}
use Rattle.x86_instr.specs.declared.mnemonic.Mnemonic.TheVariants as names

abbrev pub bin_mnemonic : Bin → Mnemonic
bin_mnemonic bins.Add = names.Add
bin_mnemonic bins.Adc = names.Adc
bin_mnemonic bins.Sub = names.Sub
bin_mnemonic bins.Sbb = names.Sbb
bin_mnemonic bins.And = names.And
bin_mnemonic bins.Or = names.Or
bin_mnemonic bins.Xor = names.Xor
bin_mnemonic bins.Cmp = names.Cmp

abbrev pub un_mnemonic : Un → Mnemonic
un_mnemonic uns.Inc = names.Inc
un_mnemonic uns.Dec = names.Dec
un_mnemonic uns.Neg = names.Neg
un_mnemonic uns.Not = names.Not

abbrev pub set_mnemonic : Cond → Mnemonic
set_mnemonic conds.O = names.Seto
set_mnemonic conds.No = names.Setno
set_mnemonic conds.C = names.Setc
set_mnemonic conds.Nc = names.Setnc
set_mnemonic conds.Z = names.Setz
set_mnemonic conds.Nz = names.Setnz

abbrev pub cmov_mnemonic : Cond → Mnemonic
cmov_mnemonic conds.O = names.Cmovo
cmov_mnemonic conds.No = names.Cmovno
cmov_mnemonic conds.C = names.Cmovc
cmov_mnemonic conds.Nc = names.Cmovnc
cmov_mnemonic conds.Z = names.Cmovz
cmov_mnemonic conds.Nz = names.Cmovnz

abbrev pub mnemonic_of : Instr → Mnemonic
mnemonic_of (instrs.Mov dst src) = names.Mov
mnemonic_of (instrs.MovImm dst imm) = names.Mov
mnemonic_of (instrs.Store mem src) = names.Mov
mnemonic_of (instrs.Lea dst mem) = names.Lea
mnemonic_of (instrs.Bin op dst src) = bin_mnemonic op
mnemonic_of (instrs.Test a b) = names.Test
mnemonic_of (instrs.Un op dst) = un_mnemonic op
mnemonic_of (instrs.Adcx dst src) = names.Adcx
mnemonic_of (instrs.Adox dst src) = names.Adox
mnemonic_of (instrs.Mulx hi lo src) = names.Mulx
mnemonic_of (instrs.Mul src) = names.Mul
mnemonic_of (instrs.Imul dst src) = names.Imul
mnemonic_of (instrs.Shl dst by) = names.Shl
mnemonic_of (instrs.Shr dst by) = names.Shr
mnemonic_of (instrs.Shrd dst src by) = names.Shrd
mnemonic_of (instrs.Shlx dst src count) = names.Shlx
mnemonic_of (instrs.Shrx dst src count) = names.Shrx
mnemonic_of (instrs.Set cond dst) = set_mnemonic cond
mnemonic_of (instrs.Movzx dst src) = names.Movzx
mnemonic_of (instrs.Cmov cond dst src) = cmov_mnemonic cond
mnemonic_of instrs.Clc = names.Clc
mnemonic_of instrs.Ret = names.Ret
