-- What the answer of a run's code says of the run.
use Rattle.std.specs.Prelude.{◌≡◌, List}
use Rattle.word_program.specs.Program.{Source}
use Rattle.x86_instr.specs.declared.line.Line.{Line}
use Rattle.x86_instr.specs.Frame.{frame_of}
use Rattle.terms.specs.declared.nodes.Node.{Node}
use Rattle.symbolic_state.specs.Fitting.{HasShape}
use Rattle.equiv_validator.specs.declared.running.Ending.{Ending}
use Rattle.equiv_validator.specs.declared.running.Ending.TheVariants as endings
use Rattle.equiv_validator.specs.Runs.{Ended, Stuck, SymbolicRun}

-- the run left this table, and is stuck at this line or ended in this state
abbrev pub IsEnding : Ending → List Node → SymbolicRun → Type 0
IsEnding (endings.Stuck line) table run = run ≡ record { table = table; ending = Stuck line }
IsEnding (endings.Ended y) table run = run ≡ record { table = table; ending = Ended y }

-- the state at `ret` has the shape of the program and of the listing's frame
abbrev pub HasShapeAtEnd : Source → List Line → Ending → Type 0
HasShapeAtEnd program lines (endings.Stuck line) = Unit {0}
HasShapeAtEnd program lines (endings.Ended y) = HasShape program (frame_of lines) y
