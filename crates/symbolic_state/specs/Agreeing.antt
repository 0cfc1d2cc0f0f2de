-- What a symbolic state says of a state of the machine.
use Rattle.std.specs.Prelude.{◌≡◌, ℕ, Bool, List, length, Option, Some, None, slice_index}
use Rattle.std.specs.FinMap as map
use Rattle.word_program.specs.declared.parameter.Param.{Param}
use Rattle.word_program.specs.Program.{Source}
use Rattle.word_program.specs.Values.{input_word}
use Rattle.x86_instr.specs.declared.operand.Reg.{Reg}
use Rattle.x86_meaning.specs.declared.state.State.{State}
use Rattle.x86_meaning.specs.Correct.{Keeps}
use Rattle.x86_meaning.specs.Machine.{bit, reg}
use Rattle.x86_meaning.specs.Start.{Area, address_of}
use Rattle.terms.specs.Meaning.{Start}
use Rattle.symbolic_state.specs.Symbols.{Symbols, node_in}
use Rattle.symbolic_state.specs.Cells.{node_of}

-- what registers and inputs hold at the start
abbrev pub start_of : List Param → List ℕ → State → Start
start_of params inputs s = record { regs = λ number. slice_index s.regs number; inputs = input_word params inputs }

-- where a flag's node is known, the flag is defined and has the node's word
abbrev pub FlagAgrees : (ℕ → ℕ) → Option ℕ → Option Bool → Type 0
FlagAgrees val None flag = Unit {0}
FlagAgrees val (Some number) flag = (b : Bool) × (flag ≡ Some b) × (val number ≡ bit b)

-- In a run from the start `first`, the state `s` holds the words of the nodes that the symbolic state knows, and the
-- memory is kept. An unknown flag or word says nothing.
pub record Agrees (program : Source) (frame : ℕ) (first : State) (val : ℕ → ℕ) (y : Symbols) (s : State) : Type 0 where
  pub sixteen : length s.regs ≡ 16
  pub registers : (r : Reg) → reg s r ≡ val (node_in y r)
  pub cf : FlagAgrees val y.cf s.cf
  pub of : FlagAgrees val y.of s.of
  pub zf : FlagAgrees val y.zf s.zf
  pub memory : (area : Area) (word number : ℕ) → node_of y area word ≡ Some number
      → map.get s.cells (address_of first frame area word) ≡ Some (val number)
  pub keeps : Keeps program.params frame first s.cells
