-- A proved listing is correct.
use Rattle.std.proofs.Common.{◌≡◌, ℕ, ◌<◌, Bool, true, false, List, [], ◌∷◌, Option, Some}
use Rattle.std.proofs.Common.{refl, sym, ap, ◌∙◌, subst}
use Rattle.std.proofs.Common.{length, None, arith}
use Rattle.std.specs.Option.{option_map_or}
use Rattle.std.proofs.lemmas.Bool.Decides.{nat_tests}
use Rattle.base.proofs.Arithmetic.{not_below_zero}
use Rattle.std.specs.Prelude.{slice_get, find, not, if◌then◌else◌, IsSomeAnd, IsTrue}
use Rattle.std.specs.List.{AllByRecursion}
use Rattle.std.specs.FinMap as map
use Rattle.word_program.specs.Accepted.{IsAccepted, IsOutputWord}
use Rattle.word_program.specs.declared.parameter.Param.{Param}
use Rattle.word_program.specs.Program.{Source}
use Rattle.word_program.specs.Values.{is_output, output_word, stored_word, targets_of}
use Rattle.x86_instr.specs.declared.line.Line.{Line}
use Rattle.x86_instr.specs.declared.operand.Reg.{Reg}
use Rattle.x86_instr.specs.declared.operand.Reg.TheVariants.{Rbx, Rsp, Rbp}
use Rattle.x86_instr.specs.declared.operand.Reg.TheVariants.{R12, R13, R14, R15}
use Rattle.x86_instr.specs.Fits.{FitsLines}
use Rattle.x86_instr.specs.Frame.{frame_of}
use Rattle.x86_instr.specs.Registers.{number_of}
use Rattle.x86_meaning.specs.declared.state.State.{State}
use Rattle.x86_meaning.specs.Correct.{IsCorrect, Returns}
use Rattle.x86_meaning.specs.Machine.{reg}
use Rattle.x86_meaning.specs.Start.{Array, IsStart, address_of, output_words}
use Rattle.terms.specs.declared.nodes.Node.{Node}
use Rattle.terms.specs.declared.nodes.Form.{Form}
use Rattle.terms.specs.Meaning.{IsSound, IsValuation, node_value}
use Rattle.symbolic_state.specs.Symbols.{Symbols, node_in}
use Rattle.symbolic_state.specs.Agreeing.{Agrees, start_of}
use Rattle.symbolic_state.specs.Fitting.{HasShape}
use Rattle.program_nodes.specs.Operands.{IsProgramForm}
use Rattle.program_nodes.specs.Sources.{source_made, source_outputs}
use Rattle.symbolic_state.specs.Starts.{symbols_at_start}
use Rattle.terms.specs.declared.nodes.Form.TheVariants as forms
use Rattle.term_store.proofs.Growth.{grown_sound}
use Rattle.term_store.proofs.Prefixes.{prefix_refl, sound_front, valuation_front}
use Rattle.term_store.proofs.Values.{valuation}
use Rattle.program_nodes.specs.Sources.{IsRunOn}
use Rattle.symbolic_state.proofs.AtStart.{start_shape}
use Rattle.symbolic_state.proofs.StartsAgree.{start_admits, start_agrees, start_fits}
use Rattle.symbolic_values.proofs.StepRows.{IsPlain}
use Rattle.program_nodes.proofs.ProgramNodes.{source_grown, source_table}
use Rattle.program_nodes.proofs.SourceOutputs.{stored_value}
use Rattle.symbolic_state.proofs.LaterTables.{number_below}
use Rattle.program_nodes.proofs.StartValues.{start_value}
use Rattle.equiv_validator.specs.Checks.{HasOutputs, IsProved, is_restored, lost_register, saved}
use Rattle.equiv_validator.specs.Runs.{run_from, run_of}
use Rattle.equiv_validator.proofs.Induction.{run_grown, run_prefix, runs}
use Rattle.equiv_validator.proofs.OutputNodes.{output_known}

-- ---- the end of a run

-- a word of an output parameter, by its parameter
by_role : (b : Bool) (p : Param) (word : ℕ) → is_output p.role ≡ b → word < (if b then length p.bounds else 0)
    → (is_output p.role ≡ true) × (word < length p.bounds)
by_role true p word e h = (e, h)
by_role false p word e h = absurd (not_below_zero word h)

by_param : (params : List Param) (found : Option Param) (param word : ℕ) → slice_get params param ≡ found
    → word < option_map_or (λ p. if is_output p.role then length p.bounds else 0) found 0
    → (p : Param) × (slice_get params param ≡ Some p) × (is_output p.role ≡ true) × (word < length p.bounds)
by_param params None param word e h = absurd (not_below_zero word h)
by_param params (Some p) param word e h = let r = by_role (is_output p.role) p word refl h in (p, e, r.0, r.1)

-- so it is a word that the program writes
output_there : (params : List Param) (param word : ℕ) → word < output_words params param
    → IsOutputWord params param word
output_there params param word h =
    let p = by_param params (slice_get params param) param word refl h in
    subst (λ (o : Option Param). IsSomeAnd o (λ q. IsTrue (is_output q.role) × (word < length q.bounds))) (sym p.1)
    (p.2, p.3)

some_is_none : {A : Type 0} (x : A) → Some x ≡ None → ⊥
some_is_none x e = cc

-- where no register of a list is lost, each is restored
none_lost : (y : Symbols) (regs : List Reg) → find (λ r. not (is_restored y r)) regs ≡ None
    → AllByRecursion (λ r. is_restored y r ≡ true) regs
none_lost y [] e = tt
none_lost y (r ∷ rs) e = first_kept (is_restored y r) refl e (none_lost y rs) where
  first_kept : (b : Bool) → is_restored y r ≡ b
      → (if not b then Some r else find (λ q. not (is_restored y q)) rs) ≡ None
      → (find (λ q. not (is_restored y q)) rs ≡ None → AllByRecursion (λ q. is_restored y q ≡ true) rs)
      → (is_restored y r ≡ true) × AllByRecursion (λ q. is_restored y q ≡ true) rs
  first_kept true b e rest = (b, rest e)
  first_kept false b e rest = absurd (some_is_none r e)

module _ (program : Source) (lines : List Line) (inputs : List ℕ) (first : State) (val : ℕ → ℕ) (last : Symbols)
    (shape : HasShape program (frame_of lines) last)
    (starts : (r : Reg) → val (number_of r) ≡ reg first r)
    (stored : (param word : ℕ) → word < output_words program.params param
    → val (stored_word (targets_of program.ops) (source_made program).numbers param word)
    ≡ output_word program inputs param word)
  where
    outputs_hold : HasOutputs program last → (u : State) → Agrees program (frame_of lines) first val last u
        → (param word : ℕ) → word < output_words program.params param
        → map.get u.cells (address_of first (frame_of lines) (Array param) word)
        ≡ Some (output_word program inputs param word)
    unfolding source_outputs
    outputs_hold outputs u a param word h =
        let p = by_param program.params (slice_get program.params param) param word refl h in
        a.memory (Array param) word (stored_word (targets_of program.ops) (source_made program).numbers param word)
        (output_known (targets_of program.ops)
        (source_made program).numbers program.params last.arrays 0 shape.arrays outputs
        param word p.0 p.1 p.2 p.3
        ∙ ap (λ n. Some (stored_word (targets_of program.ops) (source_made program).numbers n word)) (omega arith))
        ∙ ap (λ n. Some n) (stored param word h)

    restored : (u : State) → Agrees program (frame_of lines) first val last u → (r : Reg)
        → is_restored last r ≡ true → reg u r ≡ reg first r
    restored u a r e = let same : node_in last r ≡ number_of r = grind (arith, nat_tests, e) in
        a.registers r ∙ ap val same ∙ starts r

    pub returns : HasOutputs program last → lost_register last ≡ None → is_restored last Rsp ≡ true → (u : State)
        → Agrees program (frame_of lines) first val last u → Returns program (frame_of lines) inputs first u
    returns outputs none stack u a =
        let all = none_lost last saved none in
        record {
          outputs = outputs_hold outputs u a;
          registers = (
            restored u a Rbx all.0,
            (
              restored u a Rbp all.1.0,
              (
                restored u a R12 all.1.1.0,
                (
                  restored u a R13 all.1.1.1.0,
                  (restored u a R14 all.1.1.1.1.0, (restored u a R15 all.1.1.1.1.1.0, (restored u a Rsp stack, tt))),
                ),
              ),
            ),
          );
          keeps = a.keeps;
        }

-- ---- from every start

module _ (program : Source) (accepted : IsAccepted program) where
  abbrev T0 : List Node
  T0 = (source_made program).table

  plain_forms : (f : Form) → IsPlain f → IsProgramForm program.params f
  plain_forms (forms.Start number) plain = absurd plain
  plain_forms (forms.In param word low high) plain = absurd plain
  plain_forms _ plain = tt

  -- the program's nodes in a run from a start
  run_on : (lines : List Line) (inputs : List ℕ) (first : State) (val : ℕ → ℕ) → IsStart program lines inputs first
      → IsValuation (start_of program.params inputs first) (source_made program).table val
      → IsSound (source_made program).table val → IsRunOn program inputs (start_of program.params inputs first) val
  run_on lines inputs first val begins valued sound = record {
    within = begins.inputs_within;
    given = λ param word. refl;
    valuation = valued;
    sound = sound;
  }

  pub proved_is_correct : (lines : List Line) → FitsLines lines → IsProved program lines → IsCorrect program lines
  unfolding run_of
  proved_is_correct lines fit proved = record {
    runs = λ inputs first begins.
        let y = symbols_at_start T0 program (frame_of lines) in
        let T = (run_from 1 lines T0 (symbols_at_start T0 program (frame_of lines))).table in
        let start = start_of program.params inputs first in
        let val : ℕ → ℕ = node_value (start_of program.params inputs first)
        (run_from 1 lines T0 (symbols_at_start T0 program (frame_of lines))).table in
        let fits = start_fits program accepted T0 (prefix_refl T0) (frame_of lines) in
        let table = source_table program accepted in
        let grown = run_grown (IsProgramForm program.params) plain_forms lines 1 T0
        (symbols_at_start T0 program (frame_of lines)) fit table fits (source_grown program accepted) in
        let valued = valuation start T grown.0 in
        let sound = grown_sound (IsProgramForm program.params) start val T grown.0 grown.1
        (start_admits program accepted lines inputs first begins) valued in
        let front = run_prefix lines 1 T0 (symbols_at_start T0 program (frame_of lines)) in
        let valued0 = valuation_front front valued in
        let sound0 = sound_front front sound in
        runs program lines inputs first begins val T valued sound proved.last
        (Returns program (frame_of lines) inputs first)
        (λ shape u a. returns program lines inputs first val proved.last shape
        (λ r. start_value program accepted start val valued0 (number_of r) (number_below r))
        (λ param word h. stored_value program inputs start val accepted
        (run_on lines inputs first val begins valued0 sound0) param word
        (output_there program.params param word h))
        proved.outputs proved.saved_registers proved.stack u a)
        lines 1 T0 y first fit table fits (start_shape T0 program (frame_of lines)) (prefix_refl T)
        (start_agrees program accepted T0 (prefix_refl T0) lines inputs first val begins valued0 sound0) proved.ends;
  }
