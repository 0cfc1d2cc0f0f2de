-- Runs of the machine, in which nodes have words and a symbolic state agrees with a state of the machine.
use Rattle.std.proofs.Common.{ℕ, List}
use Rattle.x86_instr.specs.declared.line.Line.{Line}
use Rattle.x86_instr.specs.Frame.{frame_of}
use Rattle.x86_meaning.specs.declared.state.State.{State}
use Rattle.x86_meaning.specs.Start.{IsStart}
use Rattle.word_program.specs.Program.{Source}
use Rattle.terms.specs.declared.nodes.Node.{Node}
use Rattle.terms.specs.Tables.{Prefix}
use Rattle.terms.specs.Meaning.{Start, IsSound, IsValuation}
use Rattle.term_store.proofs.Prefixes.{sound_front, valuation_front}
use Rattle.symbolic_state.specs.Symbols.{Symbols}
use Rattle.symbolic_state.specs.Fitting.{HasShape}
use Rattle.symbolic_state.specs.Agreeing.{Agrees, start_of}

-- a run of the machine from a start, and the words of nodes in it
pub record Run : Type 0 where
  pub program : Source
  pub lines : List Line
  pub inputs : List ℕ
  pub first : State
  pub start : IsStart program lines inputs first
  pub val : ℕ → ℕ

abbrev pub start_in : Run → Start
start_in r = start_of r.program.params r.inputs r.first

abbrev pub Agreed : Run → Symbols → State → Type 0
Agreed r y s = Agrees r.program (frame_of r.lines) r.first r.val y s

abbrev pub Shaped : Run → Symbols → Type 0
Shaped r y = HasShape r.program (frame_of r.lines) y

-- the run gives the nodes of the table their words
pub record Valued (r : Run) (t : List Node) : Type 0 where
  pub is : IsValuation (start_in r) t r.val
  pub sound : IsSound t r.val

pub valued_front : (r : Run) (t u : List Node) → Prefix t u → Valued r u → Valued r t
valued_front r t u p v = record {
  is = valuation_front p v.is;
  sound = sound_front p v.sound;
}
