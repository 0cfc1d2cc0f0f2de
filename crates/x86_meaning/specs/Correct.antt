-- A correct listing: from every start state its run ends, with the program's outputs in the output arrays,
-- the preserved registers as they were (System V AMD64 psABI, section 3.2.1), and nothing else in the
-- memory changed, in any state of the run, but the output arrays and the frame.
use Rattle.std.specs.Prelude.{◌≡◌, ◌≢◌, ℕ, ◌<◌, List, [], ◌∷◌, Some, is_some}
use Rattle.std.specs.List.{AllByRecursion}
use Rattle.std.specs.FinMap as map
use Rattle.word_program.specs.declared.parameter.Param.{Param}
use Rattle.word_program.specs.Program.{Source}
use Rattle.word_program.specs.Values.{output_word}
use Rattle.x86_instr.specs.declared.operand.Reg.{Reg}
use Rattle.x86_instr.specs.declared.operand.Reg.TheVariants.{Rbx, Rsp, Rbp, R12, R13, R14, R15}
use Rattle.x86_instr.specs.declared.line.Line.{Line}
use Rattle.x86_meaning.specs.declared.state.State.{State}
use Rattle.x86_meaning.specs.Machine.{Cells, reg}
use Rattle.x86_meaning.specs.Runs.{Runs}
use Rattle.x86_instr.specs.Frame.{frame_of}
use Rattle.x86_meaning.specs.Start.{Area, Array, Frame, Return, output_words, area_words, address_of, IsStart}

-- how many words of an area a function may write: all of the output arrays and of the frame
abbrev pub written_words : List Param → ℕ → Area → ℕ
written_words params frame (Array param) = output_words params param
written_words params frame Frame = area_words params frame Frame
written_words params frame Return = 0

-- the address is that of no word that a function may write
abbrev pub IsOutside : List Param → ℕ → State → ℕ → Type 0
IsOutside params frame s address =
    (area : Area) (word : ℕ) → word < written_words params frame area → address ≢ address_of s frame area word

-- the memory has the cells of the start state, and those outside hold what they held there
pub record Keeps (params : List Param) (frame : ℕ) (s : State) (cells : Cells) : Type 0 where
  pub addresses : (address : ℕ) → is_some (map.get cells address) ≡ is_some (map.get s.cells address)
  pub others : (address : ℕ) → IsOutside params frame s address → map.get cells address ≡ map.get s.cells address

-- the registers that a function gives back as it found them
abbrev pub preserved : List Reg
preserved = Rbx ∷ Rbp ∷ R12 ∷ R13 ∷ R14 ∷ R15 ∷ Rsp ∷ []

-- the last state t of a run from the start state s
pub record Returns (program : Source) (frame : ℕ) (inputs : List ℕ) (s t : State) : Type 0 where
  pub outputs : (param word : ℕ) → word < output_words program.params param
      → map.get t.cells (address_of s frame (Array param) word) ≡ Some (output_word program inputs param word)
  pub registers : AllByRecursion (λ r. reg t r ≡ reg s r) preserved
  pub keeps : Keeps program.params frame s t.cells

-- the listing with these lines is correct for the program
pub record IsCorrect (program : Source) (lines : List Line) : Type 0 where
  pub runs : (inputs : List ℕ) (s : State) → IsStart program lines inputs s
      → Runs (λ t. Keeps program.params (frame_of lines) s t.cells)
      (λ t. Returns program (frame_of lines) inputs s t) lines s
