-- What the laws of start states say: what is free in them, and from what each of them can be had, in the words of
-- the calling convention (System V AMD64 psABI, sections 3.2.2 and 3.2.3).
use Rattle.std.specs.Prelude.{◌≡◌, ◌≢◌, ℕ, ◌+◌, ◌-◌, ◌*◌, ◌%◌, ◌^◌, ◌<◌, ◌≤◌, ◌↔◌, Bool, false, not, List, [], ◌∷◌}
use Rattle.std.specs.Prelude.{length, Some, slice_get, IsTrue, IsSome, IfSome, ◌⊎◌}
use Rattle.std.specs.Option.{IsSomeAnd, option_map_or}
use Rattle.std.specs.FinMap as map
use Rattle.word_program.specs.declared.parameter.Param.{Param}
use Rattle.word_program.specs.declared.parameter.Role.{Role}
use Rattle.word_program.specs.Program.{Source}
use Rattle.word_program.specs.Values.{is_output, is_input_array, is_scalar, input_word, input_bounds, AreWithin}
use Rattle.x86_instr.specs.declared.operand.Reg.{Reg}
use Rattle.x86_instr.specs.declared.operand.Reg.TheVariants.{Rcx, Rdx, Rsp, Rsi, Rdi, R8, R9}
use Rattle.x86_instr.specs.declared.line.Line.{Line}
use Rattle.x86_instr.specs.Frame.{frame_of}
use Rattle.x86_meaning.specs.declared.state.State.{State}
use Rattle.x86_meaning.specs.Machine.{IsWord, reg}
use Rattle.x86_meaning.specs.Start.{param_reg, IsStart}

-- the parameter with this number has such a role, and has a word with this number
abbrev pub HasWord : (Role → Bool) → List Param → ℕ → ℕ → Type 0
HasWord has_role params param word =
    IsSomeAnd (slice_get params param) (λ p. IsTrue (has_role p.role) × (word < length p.bounds))

-- an array, of outputs or of inputs
abbrev pub is_array : Role → Bool
is_array role = not (is_scalar role)

-- ---- what is free

-- the register is not the stack pointer, and passes none of the parameters
pub record IsFreeRegister (params : List Param) (r : Reg) : Type 0 where
  pub no_stack_pointer : r ≢ Rsp
  pub no_parameter : (param : ℕ) → param < length params
      → slice_get (Rdi ∷ Rsi ∷ Rdx ∷ Rcx ∷ R8 ∷ R9 ∷ []) param ≢ Some r

-- the address is that of no word of an input array
abbrev pub IsNoInput : List Param → State → ℕ → Type 0
IsNoInput params s address =
    (param word : ℕ) → HasWord is_input_array params param word → address ≢ reg s (param_reg param) + 8 * word

-- ---- what is enough

-- the address lies in the frame, or is that of the return cell, which stands on it
abbrev pub IsOnStack : ℕ → (Reg → ℕ) → ℕ → Type 0
IsOnStack frame regs address = (regs Rsp - frame ≤ address) × (address ≤ regs Rsp)

-- the address of a word of a parameter's array, by what the registers hold
abbrev pub array_word : (Reg → ℕ) → ℕ → ℕ → ℕ
array_word regs param word = regs (param_reg param) + 8 * word

-- Words for the registers, and for the memory by address, with which a function that has a frame of so many bytes
-- may start on these inputs. Two input arrays may lie at one address, or overlap in part.
pub record MeetConvention (program : Source) (frame : ℕ) (inputs : List ℕ) (regs : Reg → ℕ) (content : ℕ → ℕ) : Type 0
  where
    pub registers : (r : Reg) → IsWord (regs r)
    pub contents : (address : ℕ) → IsWord (content address)
    pub inputs_within : AreWithin inputs (input_bounds program.params)
    -- the words of arrays stand at multiples of 8, and none passes the end of the address space
    pub aligned : (param word : ℕ) → HasWord is_array program.params param word → regs (param_reg param) % 8 ≡ 0
    pub ends : (param word : ℕ) → HasWord is_array program.params param word
        → array_word regs param word + 8 ≤ 2 ^ 64
    -- nor does the frame with the return cell pass either end
    pub frame_begins : frame ≤ regs Rsp
    pub return_ends : regs Rsp + 8 ≤ 2 ^ 64
    pub stack_aligned : (regs Rsp + 8) % 16 ≡ 0
    -- input arrays and scalars hold the inputs
    pub input_arrays : (param word : ℕ) → HasWord is_input_array program.params param word
        → content (array_word regs param word) ≡ input_word program.params inputs param word
    pub scalars : (param word : ℕ) → HasWord is_scalar program.params param word
        → regs (param_reg param) ≡ input_word program.params inputs param 0
    -- no array lies on the stack; the words of an output are no others'; where outputs may overlap inputs, they are
    -- no other output's
    pub off_stack : (param word : ℕ) → HasWord is_array program.params param word
        → IsOnStack frame regs (array_word regs param word) → ⊥
    pub outputs_apart : (p q i j : ℕ) → p ≢ q → HasWord is_output program.params p i
        → HasWord is_output program.params q j → array_word regs p i ≢ array_word regs q j
    pub inputs_apart : program.overlap ≡ false → (p q i j : ℕ) → HasWord is_output program.params p i
        → HasWord is_input_array program.params q j → array_word regs p i ≢ array_word regs q j

-- the address is that of a word of an array, of the frame or of the return cell
abbrev pub IsNeeded : List Param → ℕ → (Reg → ℕ) → ℕ → Type 0
IsNeeded params frame regs address =
    ((param : ℕ) × (word : ℕ) × HasWord is_array params param word × (address ≡ array_word regs param word))
    ⊎ (IsOnStack frame regs address × (address % 8 ≡ 0))

-- a start with these registers, whose memory has the needed addresses alone, with this content
pub record StartsWith (program : Source) (lines : List Line) (inputs : List ℕ) (regs : Reg → ℕ) (content : ℕ → ℕ)
    : Type 0 where
  pub state : State
  pub start : IsStart program lines inputs state
  pub registers : (r : Reg) → reg state r ≡ regs r
  pub addresses : (address : ℕ) → IsSome (map.get state.cells address)
      ↔ IsNeeded program.params (frame_of lines) regs address
  pub words : (address : ℕ) → IfSome (map.get state.cells address) (λ word. word ≡ content address)

-- the word at an address of the state's memory, and 0 where it has none
abbrev pub word_at : State → ℕ → ℕ
word_at s address = option_map_or (λ word. word) (map.get s.cells address) 0
