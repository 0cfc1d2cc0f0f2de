-- The registers and their numbers (Intel Software Developer's Manual, volume 2, section 3.1.1.1, table 3-1).
use Rattle.std.specs.Prelude.{ℕ, List, [], ◌∷◌}
use Rattle.x86_instr.specs.declared.operand.Reg.{Reg}
use Rattle.x86_instr.specs.declared.operand.Reg.TheVariants.{Rax, Rcx, Rdx, Rbx, Rsp, Rbp, Rsi, Rdi, R8, R9, R10, R11}
use Rattle.x86_instr.specs.declared.operand.Reg.TheVariants.{R12, R13, R14, R15}

abbrev pub number_of : Reg → ℕ
number_of Rax = 0
number_of Rcx = 1
number_of Rdx = 2
number_of Rbx = 3
number_of Rsp = 4
number_of Rbp = 5
number_of Rsi = 6
number_of Rdi = 7
number_of R8 = 8
number_of R9 = 9
number_of R10 = 10
number_of R11 = 11
number_of R12 = 12
number_of R13 = 13
number_of R14 = 14
number_of R15 = 15

-- all registers, in the order of their numbers
abbrev pub registers : List Reg
registers =
    Rax ∷ Rcx ∷ Rdx ∷ Rbx ∷ Rsp ∷ Rbp ∷ Rsi ∷ Rdi ∷ R8 ∷ R9 ∷ R10 ∷ R11 ∷ R12 ∷ R13 ∷ R14 ∷ R15 ∷ []
