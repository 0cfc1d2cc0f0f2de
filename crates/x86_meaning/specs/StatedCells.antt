-- How the code makes the stated start; no part of a promise. The cells are put into the memory row by row.
use Rattle.std.specs.Prelude.{ℕ, zero, suc, ◌+◌, ◌-◌, ◌*◌, ◌/◌, List, [], ◌∷◌, length}
use Rattle.std.specs.FinMap as map
use Rattle.word_program.specs.declared.parameter.Param.{Param}
use Rattle.x86_instr.specs.declared.operand.Reg.{Reg}
use Rattle.x86_instr.specs.declared.operand.Reg.TheVariants.{Rax, Rcx, Rdx, Rbx, Rsp, Rbp, Rsi, Rdi, R8, R9, R10, R11}
use Rattle.x86_instr.specs.declared.operand.Reg.TheVariants.{R12, R13, R14, R15}
use Rattle.x86_meaning.specs.Machine.{Cells}
use Rattle.x86_meaning.specs.Start.{array_words}
use Rattle.x86_meaning.specs.Stated.{filling, stack_address, array_address, array_cell, stated_reg}

-- the words of the registers, by the registers' numbers
abbrev pub sixteen : (Reg → ℕ) → List ℕ
sixteen f =
    f Rax ∷ f Rcx ∷ f Rdx ∷ f Rbx ∷ f Rsp ∷ f Rbp ∷ f Rsi ∷ f Rdi ∷ f R8 ∷ f R9 ∷ f R10 ∷ f R11 ∷ f R12 ∷ f R13 ∷ f R14
    ∷ f R15 ∷ []

abbrev pub stated_regs : List Param → List ℕ → List ℕ
stated_regs params inputs = sixteen (stated_reg params inputs)

-- the memory with words one after the other from an address, as many as the number says
unfoldable pub cells_from : ℕ → ℕ → (ℕ → ℕ) → Cells → Cells
cells_from address zero word cells = cells
cells_from address (suc n) word cells = map.insert (cells_from address n word cells) (address + 8 * n) (word n)

-- with the array of the parameter of this number
abbrev pub with_array : List Param → List ℕ → ℕ → Cells → Cells
with_array params inputs param cells = cells_from (array_address param) (array_words params param)
    (array_cell params inputs param) cells

-- with the arrays of so many parameters
unfoldable pub with_arrays : List Param → List ℕ → ℕ → Cells → Cells
with_arrays params inputs zero cells = cells
with_arrays params inputs (suc n) cells = with_array params inputs n (with_arrays params inputs n cells)

-- with the frame and the return address
abbrev pub with_stack : ℕ → Cells → Cells
with_stack frame cells = cells_from (stack_address - frame) (frame / 8 + 1) (λ _. filling) cells

-- all cells
abbrev pub stated_cells : List Param → ℕ → List ℕ → Cells
stated_cells params frame inputs = with_stack frame (with_arrays params inputs (length params) map.empty)
