-- The list of all registers.
use Rattle.std.proofs.Common.{◌≡◌, refl, Some}
use Rattle.std.specs.Prelude.{slice_get}
use Rattle.x86_instr.specs.declared.operand.Reg.{Reg}
use Rattle.x86_instr.specs.declared.operand.Reg.TheVariants.{Rax, Rcx, Rdx, Rbx, Rsp, Rbp, Rsi, Rdi, R8, R9, R10, R11}
use Rattle.x86_instr.specs.declared.operand.Reg.TheVariants.{R12, R13, R14, R15}
use Rattle.x86_instr.specs.Registers.{number_of, registers}

-- each register stands there at its number
pub at_number : (r : Reg) → slice_get registers (number_of r) ≡ Some r
at_number Rax = refl
at_number Rcx = refl
at_number Rdx = refl
at_number Rbx = refl
at_number Rsp = refl
at_number Rbp = refl
at_number Rsi = refl
at_number Rdi = refl
at_number R8 = refl
at_number R9 = refl
at_number R10 = refl
at_number R11 = refl
at_number R12 = refl
at_number R13 = refl
at_number R14 = refl
at_number R15 = refl
