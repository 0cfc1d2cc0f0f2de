-- Over a table that begins with the program's nodes, the symbolic state at the start fits, and agrees with every start
-- of the machine.
use Rattle.std.proofs.Common.{◌≡◌, ℕ, ◌^◌, ◌<◌, ◌≤◌, List, length, ⊎_elim, slice_index, slice_index_or, refl, sym}
use Rattle.std.proofs.Common.{ap, ◌∙◌, subst, arith}
use Rattle.std.proofs.lemmas.Bool.{cases_lt}
use Rattle.std.proofs.lemmas.List.{get_or-map, get_or_past}
use Rattle.std.proofs.lemmas.List.FromFn.{get_or-range_with_len}
use Rattle.std.proofs.lemmas.Option.{slice_get_within}
use Rattle.word_program.specs.declared.parameter.Bounds.{Bounds}
use Rattle.word_program.specs.Accepted.{IsAccepted}
use Rattle.word_program.specs.Program.{Source}
use Rattle.word_program.specs.Values.{input_word}
use Rattle.word_program.proofs.InputWords.{input_within}
use Rattle.x86_instr.specs.declared.line.Line.{Line}
use Rattle.x86_instr.specs.declared.operand.Reg.{Reg}
use Rattle.x86_instr.specs.declared.operand.Reg.TheVariants.{Rax}
use Rattle.x86_instr.specs.Frame.{frame_of}
use Rattle.x86_instr.specs.Registers.{number_of, registers}
use Rattle.x86_meaning.specs.declared.state.State.{State}
use Rattle.x86_meaning.specs.Start.{IsStart}
use Rattle.terms.specs.declared.nodes.Node.{Node}
use Rattle.terms.specs.declared.nodes.Form.{Form}
use Rattle.terms.specs.declared.nodes.Form.TheVariants as forms
use Rattle.terms.specs.Meaning.{Admits, IsSound, IsValuation}
use Rattle.terms.specs.Tables.{Prefix}
use Rattle.term_store.specs.Interning.{Interned}
use Rattle.term_store.proofs.Prefixes.{prefix_length, sound_front, valuation_front}
use Rattle.symbolic_state.specs.Agreeing.{Agrees, start_of}
use Rattle.symbolic_state.specs.Fitting.{FitsTable}
use Rattle.program_nodes.specs.Operands.{IsProgramForm}
use Rattle.program_nodes.specs.Sources.{IsRunOn, source_made}
use Rattle.symbolic_state.specs.Starts.{input_node, symbols_at_start}
use Rattle.symbolic_state.proofs.AtStart as at_start
use Rattle.symbolic_state.proofs.AtStart.{IsInput}
use Rattle.program_nodes.proofs.SourceStarts.{input_there, source_starts, start_node}
use Rattle.program_nodes.proofs.StartValues.{input_value, start_value}

module _ (program : Source) (accepted : IsAccepted program) (t : List Node) (p : Prefix (source_made program).table t)
  where
    long : 16 ≤ length t
    long =
        let last = slice_get_within (source_made program).table 15 (start_node 15)
        (source_starts program accepted 15 (omega arith)) in
        let more = prefix_length p in
        omega (arith, last)

    -- the node of an input word is the one that the program's nodes have
    same_node : (param word : ℕ) (h : IsInput program.params param word)
        → input_node t program.params param word ≡ (input_there program accepted param word h).number
    same_node param word h = ap (λ (m : Interned). m.number) ((input_there program accepted param word h).found t p)

    inside : (param word : ℕ) → IsInput program.params param word → input_node t program.params param word < length t
    inside param word h =
        let below = (input_there program accepted param word h).inside in let more = prefix_length p in
        let same = same_node param word h in omega (arith, below, same)

    -- the symbolic state at the start fits the table
    pub start_fits : (frame : ℕ) → FitsTable t (symbols_at_start t program frame)
    start_fits frame = at_start.start_fits program accepted t long inside frame

    -- and agrees with the machine's start
    pub start_agrees : (lines : List Line) (inputs : List ℕ) (first : State) (val : ℕ → ℕ)
        → IsStart program lines inputs first → IsValuation (start_of program.params inputs first) t val → IsSound t val
        → Agrees program (frame_of lines) first val (symbols_at_start t program (frame_of lines)) first
    start_agrees lines inputs first val start is sound =
        let begin = start_of program.params inputs first in
        let run : IsRunOn program inputs begin val = record {
          within = start.inputs_within;
          given = λ param word. refl;
          valuation = valuation_front p is;
          sound = sound_front p sound;
        } in
        at_start.start_agrees program accepted t long inside lines inputs first start val
        (start_value program accepted begin val run.valuation)
        (λ param word h. ap val (same_node param word h)
        ∙ input_value program inputs begin val accepted run param word h)

-- ---- what starts admit

-- the number of the register at a place of their list
number_there : (k : ℕ) → k < 16 → number_of (slice_index_or registers k Rax) ≡ k
number_there k h = sym (get_or-map number_of registers k Rax 0 h) ∙ (get_or-range_with_len 0 16 k 0 h ∙ omega arith)

-- the word at a number of the sixteen registers, and beyond
word_there : (regs : List ℕ) → length regs ≡ 16 → ((r : Reg) → slice_index regs (number_of r) < 2 ^ 64) → (k : ℕ)
    → slice_index regs k < 2 ^ 64
word_there regs sixteen words k = ⊎_elim
    (λ (h : k < 16). subst (λ n. slice_index regs n < 2 ^ 64) (number_there k h)
    (words (slice_index_or registers k Rax)))
    (λ (h : 16 ≤ k). let past : slice_index regs k ≡ 0 = get_or_past regs k 0 (omega arith) in omega (arith, past))
    (cases_lt k 16)

-- a start of the machine admits each form that is made for the program
pub start_admits : (program : Source) → IsAccepted program → (lines : List Line) (inputs : List ℕ) (first : State)
    → IsStart program lines inputs first → (f : Form) → IsProgramForm program.params f
    → Admits (start_of program.params inputs first) f
start_admits program accepted lines inputs first start (forms.Start reg) has =
    word_there first.regs start.state.sixteen start.state.registers reg
start_admits program accepted lines inputs first start (forms.In param word low high) has =
    let lies = input_within program.params inputs start.inputs_within accepted.params param word has.1 in
    let same = has.0 in (
      subst (λ (b : Bounds). b.low ≤ input_word program.params inputs param word) same lies.low,
      subst (λ (b : Bounds). input_word program.params inputs param word ≤ b.high) same lies.high,
    )
start_admits program accepted lines inputs first start _ has = tt
