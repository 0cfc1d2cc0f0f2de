-- The stated start state, in which listings are tried: one state that a function may start in, with every
-- register and cell given.
use Rattle.std.specs.Prelude.{◌≡◌, ℕ, ◌+◌, ◌-◌, ◌*◌, ◌/◌, ◌%◌, ◌<◌, ◌≤◌, ◌^◌, Bool, ◌&&◌, ◌==◌, nat_lt, nat_le, List}
use Rattle.std.specs.Prelude.{length, Option, Some, None, slice_get, if◌then◌else◌}
use Rattle.std.specs.List.{AllByRecursion}
use Rattle.std.specs.Option.{option_map_or}
use Rattle.std.specs.FinMap as map
use Rattle.word_program.specs.declared.parameter.Param.{Param}
use Rattle.word_program.specs.declared.parameter.Role.{Role}
use Rattle.word_program.specs.declared.parameter.Role.TheVariants.{Output, InputArray, InputScalar}
use Rattle.word_program.specs.Program.{Source}
use Rattle.word_program.specs.Values.{input_word}
use Rattle.x86_instr.specs.declared.operand.Reg.{Reg}
use Rattle.x86_instr.specs.declared.operand.Reg.TheVariants.{Rax, Rcx, Rdx, Rbx, Rsp, Rbp, Rsi, Rdi, R8, R9, R10, R11}
use Rattle.x86_instr.specs.declared.operand.Reg.TheVariants.{R12, R13, R14, R15}
use Rattle.x86_instr.specs.declared.line.Line.{Line}
use Rattle.x86_instr.specs.Frame.{frame_of}
use Rattle.x86_instr.specs.Registers.{number_of}
use Rattle.x86_meaning.specs.declared.state.State.{State}
use Rattle.x86_meaning.specs.Machine.{reg}
use Rattle.x86_meaning.specs.Start.{array_words}

-- the word of each cell that holds no input
abbrev pub filling : ℕ
filling = 0x5a5a5a5a5a5a5a5a

abbrev pub stack_address : ℕ
stack_address = 0x7ffffff8

-- where a parameter's array begins
abbrev pub array_address : ℕ → ℕ
array_address param = 65536 * (param + 1)

-- ---- registers

-- what the register of a parameter holds: a scalar itself, and else the address of the array
abbrev pub role_word : Role → ℕ → ℕ → ℕ
role_word Output address word = address
role_word InputArray address word = address
role_word InputScalar address word = word

-- what the register of the parameter with this number holds, and another word where there is no such parameter
abbrev pub param_word : List Param → List ℕ → ℕ → ℕ → ℕ
param_word params inputs param other = option_map_or
    (λ p. role_word p.role (array_address param) (input_word params inputs param 0)) (slice_get params param) other

-- what a register holds that has no other use
abbrev pub unused_word : Reg → ℕ
unused_word r = 0xa5a5a5a5a5a5a500 + number_of r

abbrev pub stated_reg : List Param → List ℕ → Reg → ℕ
stated_reg params inputs Rax = unused_word Rax
stated_reg params inputs Rcx = param_word params inputs 3 (unused_word Rcx)
stated_reg params inputs Rdx = param_word params inputs 2 (unused_word Rdx)
stated_reg params inputs Rbx = unused_word Rbx
stated_reg params inputs Rsp = stack_address
stated_reg params inputs Rbp = unused_word Rbp
stated_reg params inputs Rsi = param_word params inputs 1 (unused_word Rsi)
stated_reg params inputs Rdi = param_word params inputs 0 (unused_word Rdi)
stated_reg params inputs R8 = param_word params inputs 4 (unused_word R8)
stated_reg params inputs R9 = param_word params inputs 5 (unused_word R9)
stated_reg params inputs R10 = unused_word R10
stated_reg params inputs R11 = unused_word R11
stated_reg params inputs R12 = unused_word R12
stated_reg params inputs R13 = unused_word R13
stated_reg params inputs R14 = unused_word R14
stated_reg params inputs R15 = unused_word R15

-- ---- cells

-- a word of a parameter's array
abbrev pub role_cell : Role → ℕ → ℕ
role_cell Output word = filling
role_cell InputArray word = word
role_cell InputScalar word = word

abbrev pub array_cell : List Param → List ℕ → ℕ → ℕ → ℕ
array_cell params inputs param word = option_map_or (λ p. role_cell p.role (input_word params inputs param word))
    (slice_get params param) filling

-- the address is in the frame or is that of the return address
abbrev pub is_stack : ℕ → ℕ → Bool
is_stack frame address = nat_le (stack_address - frame) address && nat_le address stack_address

-- the address of a word of the array of the parameter with this number, by the address from the array's begin
abbrev pub array_at : List Param → List ℕ → ℕ → ℕ → Option ℕ
array_at params inputs param offset = if nat_lt (offset / 8) (array_words params param) then
    Some (array_cell params inputs param (offset / 8)) else None

-- the word at an address, at multiples of 8 alone
abbrev pub stated_cell : List Param → ℕ → List ℕ → ℕ → Option ℕ
stated_cell params frame inputs address =
    if address % 8 == 0
    then (if is_stack frame address then Some filling
    else (if nat_le 65536 address then array_at params inputs (address / 65536 - 1) (address % 65536) else None))
    else None

-- ---- the state

-- the state is the stated start of the listing with these lines for the program on these input words
pub record IsStated (program : Source) (lines : List Line) (inputs : List ℕ) (s : State) : Type 0 where
  pub sixteen : length s.regs ≡ 16
  pub registers : (r : Reg) → reg s r ≡ stated_reg program.params inputs r
  pub cf : s.cf ≡ None
  pub of : s.of ≡ None
  pub zf : s.zf ≡ None
  pub cells : (address : ℕ) → map.get s.cells address ≡ stated_cell program.params (frame_of lines) inputs address

-- at most six parameters, of which an array has at most 32 words and a scalar one
pub record AreParams (params : List Param) : Type 0 where
  pub six : length params ≤ 6
  pub short : (param : ℕ) → array_words params param ≤ 32

-- each of the numbers is a word
abbrev pub AreWords : List ℕ → Type 0
AreWords words = AllByRecursion (λ word. word < 2 ^ 64) words
