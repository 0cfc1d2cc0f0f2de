-- The flags that an instruction reads, and those that it writes (Intel Software Developer's Manual, volume 2, under
-- each instruction's name, "Flags Affected"). A flag is written where the instruction sets or clears it, or leaves it
-- undefined. Of the flags there are the carry, the overflow and the zero flag.
use Rattle.std.specs.Prelude.{true, false}
use Rattle.x86_instr.specs.declared.instr.Cond.{Cond}
use Rattle.x86_instr.specs.declared.instr.Cond.TheVariants as conds
use Rattle.x86_instr.specs.declared.instr.Bin.{Bin}
use Rattle.x86_instr.specs.declared.instr.Bin.TheVariants.{Add, Adc, Sub, Sbb, And, Or, Xor, Cmp}
use Rattle.x86_instr.specs.declared.instr.Un.{Un}
use Rattle.x86_instr.specs.declared.instr.Un.TheVariants.{Inc, Dec, Neg, Not}
use Rattle.x86_instr.specs.declared.instr.Instr.{Instr}
use Rattle.x86_instr.specs.declared.instr.Instr.TheVariants as instrs
use Rattle.x86_instr.specs.declared.flags.Flags.{Flags}

-- ---- sets of flags

abbrev pub no_flag : Flags
no_flag = record { cf = false; of = false; zf = false }

abbrev pub carry_only : Flags
carry_only = record { cf = true; of = false; zf = false }

abbrev pub overflow_only : Flags
overflow_only = record { cf = false; of = true; zf = false }

abbrev pub zero_only : Flags
zero_only = record { cf = false; of = false; zf = true }

abbrev pub all_but_carry : Flags
all_but_carry = record { cf = false; of = true; zf = true }

abbrev pub all_flags : Flags
all_flags = record { cf = true; of = true; zf = true }

-- ---- rows that several instructions share

-- the flag of a condition
abbrev pub flag_of : Cond → Flags
flag_of conds.O = overflow_only
flag_of conds.No = overflow_only
flag_of conds.C = carry_only
flag_of conds.Nc = carry_only
flag_of conds.Z = zero_only
flag_of conds.Nz = zero_only

abbrev pub bin_reads : Bin → Flags
bin_reads Add = no_flag
bin_reads Adc = carry_only
bin_reads Sub = no_flag
bin_reads Sbb = carry_only
bin_reads And = no_flag
bin_reads Or = no_flag
bin_reads Xor = no_flag
bin_reads Cmp = no_flag

abbrev pub un_writes : Un → Flags
un_writes Inc = all_but_carry
un_writes Dec = all_but_carry
un_writes Neg = all_flags
un_writes Not = no_flag

-- ---- the tables

abbrev pub flags_read : Instr → Flags
flags_read (instrs.Mov dst src) = no_flag
flags_read (instrs.MovImm dst imm) = no_flag
flags_read (instrs.Store mem src) = no_flag
flags_read (instrs.Lea dst mem) = no_flag
flags_read (instrs.Bin op dst src) = bin_reads op
flags_read (instrs.Test a b) = no_flag
flags_read (instrs.Un op dst) = no_flag
flags_read (instrs.Adcx dst src) = carry_only
flags_read (instrs.Adox dst src) = overflow_only
flags_read (instrs.Mulx hi lo src) = no_flag
flags_read (instrs.Mul src) = no_flag
flags_read (instrs.Imul dst src) = no_flag
flags_read (instrs.Shl dst by) = no_flag
flags_read (instrs.Shr dst by) = no_flag
flags_read (instrs.Shrd dst src by) = no_flag
flags_read (instrs.Shlx dst src count) = no_flag
flags_read (instrs.Shrx dst src count) = no_flag
flags_read (instrs.Set cond dst) = flag_of cond
flags_read (instrs.Movzx dst src) = no_flag
flags_read (instrs.Cmov cond dst src) = flag_of cond
flags_read instrs.Clc = no_flag
flags_read instrs.Ret = no_flag

abbrev pub flags_written : Instr → Flags
flags_written (instrs.Mov dst src) = no_flag
flags_written (instrs.MovImm dst imm) = no_flag
flags_written (instrs.Store mem src) = no_flag
flags_written (instrs.Lea dst mem) = no_flag
flags_written (instrs.Bin op dst src) = all_flags
flags_written (instrs.Test a b) = all_flags
flags_written (instrs.Un op dst) = un_writes op
flags_written (instrs.Adcx dst src) = carry_only
flags_written (instrs.Adox dst src) = overflow_only
flags_written (instrs.Mulx hi lo src) = no_flag
flags_written (instrs.Mul src) = all_flags
flags_written (instrs.Imul dst src) = all_flags
flags_written (instrs.Shl dst by) = all_flags
flags_written (instrs.Shr dst by) = all_flags
flags_written (instrs.Shrd dst src by) = all_flags
flags_written (instrs.Shlx dst src count) = no_flag
flags_written (instrs.Shrx dst src count) = no_flag
flags_written (instrs.Set cond dst) = no_flag
flags_written (instrs.Movzx dst src) = no_flag
flags_written (instrs.Cmov cond dst src) = no_flag
flags_written instrs.Clc = carry_only
flags_written instrs.Ret = no_flag
