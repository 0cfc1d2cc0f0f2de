-- That a symbolic step covers the machine's step.
use Rattle.std.specs.Prelude.{◌≡◌, ℕ, ◌+◌, ◌%◌, ◌^◌, ◌<◌, true, false, List, Option, Some, None}
use Rattle.std.specs.Int.{cast_unsigned, w64}
use Rattle.word_program.specs.declared.parameter.Param.{Param}
use Rattle.word_program.specs.Program.{Source}
use Rattle.x86_instr.specs.declared.instr.Instr.{Instr}
use Rattle.x86_instr.specs.declared.line.Line.{Line}
use Rattle.x86_instr.specs.Fits.{FitsInstr}
use Rattle.x86_instr.specs.Frame.{frame_of}
use Rattle.x86_meaning.specs.declared.state.State.{State}
use Rattle.x86_meaning.specs.Correct.{written_words}
use Rattle.x86_meaning.specs.Machine.{bit, reg}
use Rattle.x86_meaning.specs.Machine as machine
use Rattle.x86_meaning.specs.Start.{Area, IsStart, address_of}
use Rattle.x86_meaning.specs.Touches.{Touched, NoCell, ReadCell, WrittenCell, touched, written_address}
use Rattle.terms.specs.declared.nodes.Node.{Node}
use Rattle.terms.specs.Meaning.{IsSound, IsValuation}
use Rattle.terms.specs.Tables.{IsTable}
use Rattle.symbolic_state.specs.declared.touch.Touch.{Touch}
use Rattle.symbolic_state.specs.Agreeing.{Agrees, start_of}
use Rattle.symbolic_state.specs.Symbols.{Symbols}
use Rattle.symbolic_state.specs.Fitting.{FitsTable, HasShape}
use Rattle.symbolic_values.specs.Steps.{step_of}

-- a word that a function may write has this address
pub record IsWritable (params : List Param) (frame : ℕ) (first : State) (address : ℕ) : Type 0 where
  pub area : Area
  pub word : ℕ
  pub inside : word < written_words params frame area
  pub is : address ≡ address_of first frame area word

-- the access that the symbolic state tells is the one that the instruction makes: read or written, at so many bytes
-- from what the register held at the start
abbrev pub TouchAgrees : State → Option Touch → Touched → Type 0
TouchAgrees first None cell = cell ≡ NoCell
TouchAgrees first (Some touch) (ReadCell address) = (touch.write ≡ false)
    × (address ≡ (reg first touch.reg + cast_unsigned w64 touch.offset) % 2 ^ 64)
TouchAgrees first (Some touch) (WrittenCell address) = (touch.write ≡ true)
    × (address ≡ (reg first touch.reg + cast_unsigned w64 touch.offset) % 2 ^ 64)
TouchAgrees first (Some touch) NoCell = ⊥

-- The machine's step is defined; it touches what the symbolic state tells, writes no cell but those of outputs and
-- frame, and leads to a state with which the symbolic state agrees.
pub record Steps (program : Source) (frame : ℕ) (first : State) (val : ℕ → ℕ) (i : Instr) (s : State) (y : Symbols)
    : Type 0 where
  pub next : State
  pub goes : machine.step_of i s ≡ Some next
  pub agrees : Agrees program frame first val y next
  pub writes : (address : ℕ) → written_address (touched i s) ≡ Some address
      → IsWritable program.params frame first address
  pub touches : TouchAgrees first y.touch (touched i s)

-- The symbolic step of the instruction, which keeps its ranges, covers the machine's step: in every run of a listing
-- for a program, where the two states agree and the symbolic step is not stuck. `val` gives the nodes' words in this
-- run.
abbrev pub Covers : Instr → List Node → Symbols → Type 0
Covers i table y =
    FitsInstr i → IsTable table → FitsTable table y
    → (program : Source) (lines : List Line) (inputs : List ℕ) (first s : State) (val : ℕ → ℕ)
    → IsStart program lines inputs first → HasShape program (frame_of lines) y
    → (z : Symbols) → (step_of i table y).state ≡ Some z
    → IsValuation (start_of program.params inputs first) (step_of i table y).table val
    → IsSound (step_of i table y).table val
    → Agrees program (frame_of lines) first val y s → Steps program (frame_of lines) first val i s z
