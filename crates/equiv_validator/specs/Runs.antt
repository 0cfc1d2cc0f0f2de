-- The symbolic run of a listing for a program: on the table of the program's nodes, from the symbolic state at the
-- start, step by step to `ret`.
use Rattle.std.specs.Prelude.{ℕ, ◌+◌, List, [], ◌∷◌, if◌then◌else◌}
use Rattle.base.specs.Options.{pick}
use Rattle.word_program.specs.Program.{Source}
use Rattle.x86_instr.specs.declared.line.Line.{Line}
use Rattle.x86_instr.specs.Frame.{frame_of}
use Rattle.x86_instr.specs.Listings.{is_ret}
use Rattle.terms.specs.declared.nodes.Node.{Node}
use Rattle.symbolic_state.specs.Symbols.{Symbols}
use Rattle.program_nodes.specs.Sources.{source_made}
use Rattle.symbolic_state.specs.Starts.{symbols_at_start}
use Rattle.symbolic_values.specs.Steps.{step_of}

-- how a symbolic run ends: at `ret` in a state, or stuck at a line, counted from 1
pub data Ending : Type 0 where
  Ended : Symbols → Ending
  Stuck : ℕ → Ending

-- the table that a run leaves, and how it ends
pub record SymbolicRun : Type 0 where
  pub table : List Node
  pub ending : Ending

-- the run of lines of which the first has this number; behind the last line nothing can run
abbrev pub run_from : ℕ → List Line → List Node → Symbols → SymbolicRun
run_from number [] table y = record { table = table; ending = Stuck number }
run_from number (line ∷ lines) table y =
    if is_ret line.instr then record { table = table; ending = Ended y } else
    (let step = step_of line.instr table y in
    pick step.state (λ z. run_from (number + 1) lines step.table z)
    (record { table = step.table; ending = Stuck number }))

-- the run of a listing with these lines for a program
unfoldable pub run_of : Source → List Line → SymbolicRun
run_of program lines = let table = (source_made program).table in
    run_from 1 lines table (symbols_at_start table program (frame_of lines))
