-- The ranges of numbers in instructions (Intel Software Developer's Manual, volume 2, section 2.1.5 on the
-- SIB byte, and SHL: a count of 0 changes no flags, and at 64-bit operand size the count has six bits).
use Rattle.std.specs.Prelude.{ℕ, Bool, not, ◌&&◌, ◌||◌, ◌==◌, nat_le}
use Rattle.x86_instr.specs.declared.operand.Reg.{Reg}
use Rattle.x86_instr.specs.declared.operand.Reg.TheVariants.{Rsp}
use Rattle.x86_instr.specs.Registers.{number_of}

abbrev pub is_shift_count : ℕ → Bool
is_shift_count n = nat_le 1 n && nat_le n 63

abbrev pub is_scale : ℕ → Bool
is_scale n = n == 1 || n == 2 || n == 4 || n == 8

-- any register but the stack pointer may be an index
abbrev pub is_index_reg : Reg → Bool
is_index_reg r = not (number_of r == number_of Rsp)
