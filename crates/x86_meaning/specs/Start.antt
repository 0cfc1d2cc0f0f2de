-- The states in which a function may start (System V AMD64 psABI, sections 3.2.2 and 3.2.3: the stack
-- frame, and parameter passing), with its parameters in registers and their arrays in the memory.
use Rattle.std.specs.Prelude.{◌≡◌, ◌≢◌, ℕ, ◌+◌, ◌-◌, ◌*◌, ◌/◌, ◌%◌, ◌^◌, ◌<◌, ◌≤◌, Bool, true, false, not, List, []}
use Rattle.std.specs.Prelude.{◌∷◌, length, Some, slice_get, slice_index_or, if◌then◌else◌, IsTrue, IsSome}
use Rattle.std.specs.Option.{option_map_or}
use Rattle.std.specs.FinMap as map
use Rattle.word_program.specs.declared.parameter.Param.{Param}
use Rattle.word_program.specs.declared.parameter.Role.{Role}
use Rattle.word_program.specs.Program.{Source}
use Rattle.word_program.specs.Values.{is_output, is_input_array, is_scalar, input_word, input_bounds, AreWithin}
use Rattle.x86_instr.specs.declared.operand.Reg.{Reg}
use Rattle.x86_instr.specs.declared.operand.Reg.TheVariants.{Rcx, Rdx, Rsp, Rsi, Rdi, R8, R9}
use Rattle.x86_instr.specs.declared.line.Line.{Line}
use Rattle.x86_instr.specs.Frame.{frame_of}
use Rattle.x86_meaning.specs.declared.state.State.{State}
use Rattle.x86_meaning.specs.Machine.{IsState, reg}

-- ---- the addresses of arrays and stack

-- the registers that pass the parameters, in order
abbrev pub param_regs : List Reg
param_regs = Rdi ∷ Rsi ∷ Rdx ∷ Rcx ∷ R8 ∷ R9 ∷ []

-- the register of a parameter, counted from 0
abbrev pub param_reg : ℕ → Reg
param_reg param = slice_index_or param_regs param Rdi

-- how many words a parameter's array has; no words where there is none
abbrev pub words_if : (Role → Bool) → List Param → ℕ → ℕ
words_if test params param = option_map_or (λ p. if test p.role then length p.bounds else 0) (slice_get params param) 0

abbrev pub array_words : List Param → ℕ → ℕ
array_words params param = words_if (λ role. not (is_scalar role)) params param

abbrev pub output_words : List Param → ℕ → ℕ
output_words params param = words_if is_output params param

abbrev pub input_array_words : List Param → ℕ → ℕ
input_array_words params param = words_if is_input_array params param

-- the array of a parameter, the frame under the stack pointer, and the cell of the return address
pub data Area : Type 0 where
  Array : ℕ → Area
  Frame : Area
  Return : Area

-- how many words an area has
abbrev pub area_words : List Param → ℕ → Area → ℕ
area_words params frame (Array param) = array_words params param
area_words params frame Frame = frame / 8
area_words params frame Return = 1

-- the address of a word of an area, in the state at the start
abbrev pub address_of : State → ℕ → Area → ℕ → ℕ
address_of s frame (Array param) word = reg s (param_reg param) + 8 * word
address_of s frame Frame word = reg s Rsp - frame + 8 * word
address_of s frame Return word = reg s Rsp + 8 * word

-- the parameter is an output
abbrev pub is_output_array : List Param → ℕ → Bool
is_output_array params param = option_map_or (λ p. is_output p.role) (slice_get params param) false

-- Whether two arrays have to be apart, by whether outputs may overlap inputs, and whether each array is an output:
-- two outputs have to, an output and an input where outputs may not overlap inputs, and two inputs never.
abbrev pub are_arrays_apart : Bool → Bool → Bool → Bool
are_arrays_apart overlap true true = true
are_arrays_apart overlap true false = not overlap
are_arrays_apart overlap false true = not overlap
are_arrays_apart overlap false false = false

-- whether two different areas have to share no cell: the frame and the return cell are apart from each other and
-- from every array
abbrev pub is_apart : Bool → List Param → Area → Area → Bool
is_apart overlap params (Array p) (Array q) =
    are_arrays_apart overlap (is_output_array params p) (is_output_array params q)
is_apart overlap params (Array p) Frame = true
is_apart overlap params (Array p) Return = true
is_apart overlap params Frame area = true
is_apart overlap params Return area = true

-- the two areas share no cell
abbrev pub AreApart : State → List Param → ℕ → Area → Area → Type 0
AreApart s params frame a b =
    (i j : ℕ) → i < area_words params frame a → j < area_words params frame b
    → address_of s frame a i ≢ address_of s frame b j

-- ---- the start

-- The state is a start of the listing with these lines for the program on these input words. All that is
-- not named is free: the other registers, the flags, and the other cells.
pub record IsStart (program : Source) (lines : List Line) (inputs : List ℕ) (s : State) : Type 0 where
  pub state : IsState s
  -- as many inputs as the program has, each within its bounds
  pub inputs_within : AreWithin inputs (input_bounds program.params)
  -- the arrays' words, the frame and the return cell are in the memory, which may have more
  pub there : (area : Area) (word : ℕ) → word < area_words program.params (frame_of lines) area
      → IsSome (map.get s.cells (address_of s (frame_of lines) area word))
  -- an array begins at a multiple of 8, and does not pass the end of the address space
  pub aligned : (param : ℕ) → 0 < array_words program.params param → reg s (param_reg param) % 8 ≡ 0
  pub ends : (param : ℕ) → 0 < array_words program.params param
      → reg s (param_reg param) + 8 * array_words program.params param ≤ 2 ^ 64
  -- nor does the frame with the return cell
  pub frame_begins : frame_of lines ≤ reg s Rsp
  pub stack_ends : reg s Rsp + 8 ≤ 2 ^ 64
  pub stack_aligned : (reg s Rsp + 8) % 16 ≡ 0
  -- the input arrays and the scalars' registers hold the inputs
  pub arrays : (param word : ℕ) → word < input_array_words program.params param
      → map.get s.cells (address_of s (frame_of lines) (Array param) word) ≡ Some
      (input_word program.params inputs param word)
  pub scalars : (param : ℕ) → 0 < words_if is_scalar program.params param
      → reg s (param_reg param) ≡ input_word program.params inputs param 0
  -- output arrays, the frame and the return cell share no cell, nor do the frame and the return cell and input
  -- arrays; outputs and inputs may where the program says so, and input arrays may
  pub apart : (a b : Area) → a ≢ b → IsTrue (is_apart program.overlap program.params a b)
      → AreApart s program.params (frame_of lines) a b
