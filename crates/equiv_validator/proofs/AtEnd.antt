-- What the code of a check wants of runs, outputs and verdicts.
use Rattle.std.proofs.Common.{◌≡◌, ℕ, ◌+◌, ◌*◌, ◌^◌, ◌<◌, ◌≤◌, Bool, true, false, List, [], ◌∷◌, ◌++◌, length, sym, ap}
use Rattle.std.proofs.Common.{◌∙◌}
use Rattle.std.proofs.Common.{Option, Some, None, suc, append-nil, subst, refl, arith}
use Rattle.std.specs.Prelude.{if◌then◌else◌}
use Rattle.std.specs.List.{AllByRecursion, flat_map}
use Rattle.std.proofs.lemmas.List.{length-append}
use Rattle.word_program.specs.Accepted.{IsAccepted, IsParam}
use Rattle.word_program.specs.declared.parameter.Param.{Param}
use Rattle.word_program.specs.declared.parameter.Role.{Role}
use Rattle.word_program.specs.declared.parameter.Role.TheVariants.{Output, InputArray, InputScalar}
use Rattle.word_program.specs.Program.{Source}
use Rattle.word_program.specs.Values.{is_output, is_scalar, output_count}
use Rattle.x86_instr.specs.declared.line.Line.{Line}
use Rattle.x86_instr.specs.Fits.{FitsLines}
use Rattle.x86_instr.specs.Frame.{frame_of}
use Rattle.terms.specs.declared.nodes.Node.{Node}
use Rattle.terms.specs.Tables.{Prefix}
use Rattle.term_store.specs.Indexed.{Joined, joined_nodes}
use Rattle.symbolic_state.specs.Symbols.{Array, Symbols}
use Rattle.symbolic_state.specs.Fitting.{HasShape, HaveShapes}
use Rattle.program_nodes.specs.Sources.{source_made, source_outputs}
use Rattle.symbolic_state.specs.Starts.{symbols_at_start}
use Rattle.symbolic_state.specs.Written.{words_written}
use Rattle.program_nodes.proofs.ProgramNodes.{source_few}
use Rattle.program_nodes.proofs.SourceOutputs.{many_outputs}
use Rattle.equiv_validator.specs.declared.verdict.Verdict.{Verdict}
use Rattle.equiv_validator.specs.declared.verdict.Verdict.TheVariants.{Proved, Not}
use Rattle.equiv_validator.specs.Checks.{IsVerdict, Ran, SaysCorrect}
use Rattle.equiv_validator.specs.Runs.{Ended, Stuck, SymbolicRun, run_from, run_of}
use Rattle.equiv_validator.proofs.Induction.{run_prefix, run_shape}
use Rattle.equiv_validator.proofs.ProvedCorrect.{proved_is_correct}

-- ---- runs

only_base : (program : Source) (j : Joined) → j.base ≡ (source_made program).table → j.own ≡ []
    → joined_nodes j ≡ (source_made program).table
only_base program j e f = (λ i. e i ++ f i) ∙ append-nil (source_made program).table

pub few_nodes : (program : Source) (j : Joined) → IsAccepted program → j.base ≡ (source_made program).table
    → j.own ≡ [] → length (joined_nodes j) ≤ 2 ^ 31
few_nodes program j accepted e f =
    let few = source_few program accepted in
    let same = ap (λ (t : List Node). length t) (only_base program j e f) in
    omega arith

run_is : (program : Source) (lines : List Line) (j : Joined) (y : Symbols) (r : SymbolicRun)
    → j.base ≡ (source_made program).table → j.own ≡ []
    → y ≡ symbols_at_start (joined_nodes j) program (frame_of lines) → run_from 1 lines (joined_nodes j) y ≡ r
    → run_of program lines ≡ r
unfolding run_of
run_is program lines j y r e f is g =
    ap (λ (t : List Node). run_from 1 lines t (symbols_at_start t program (frame_of lines))) (sym
    (only_base program j e f))
    ∙ ap (run_from 1 lines (joined_nodes j)) (sym is) ∙ g

-- a run that the code made, of these lines, from this state and table
pub record RanFrom (program : Source) (lines : List Line) (j : Joined) (started : Source) (frame : ℕ) (y : Symbols)
    (table : List Node) : Type 0 where
  pub base : j.base ≡ (source_made program).table
  pub own : j.own ≡ []
  pub same : started ≡ program
  pub frame_is : frame ≡ frame_of lines
  pub table_is : table ≡ joined_nodes j
  pub state_is : y ≡ symbols_at_start (joined_nodes j) started frame
  pub shape : HasShape started frame y

pub ran_from : {program : Source} {lines : List Line} {j : Joined} {started : Source} {frame : ℕ} {y : Symbols}
    {table : List Node} → j.base ≡ (source_made program).table → j.own ≡ [] → started ≡ program → frame ≡ frame_of lines
    → table ≡ joined_nodes j → y ≡ symbols_at_start (joined_nodes j) started frame → HasShape started frame y
    → RanFrom program lines j started frame y table
ran_from base own same frame_is table_is state_is shape = record {
  base = base;
  own = own;
  same = same;
  frame_is = frame_is;
  table_is = table_is;
  state_is = state_is;
  shape = shape;
}

ran_is : (program : Source) (lines : List Line) (j : Joined) (started : Source) (frame : ℕ) (y : Symbols)
    (table : List Node) (r : SymbolicRun) → RanFrom program lines j started frame y table → run_from 1 lines table y ≡ r
    → run_of program lines ≡ r
ran_is program lines j started frame y table r ran g =
    run_is program lines j y r ran.base ran.own
    (ran.state_is ∙ (λ i. symbols_at_start (joined_nodes j) (ran.same i) (ran.frame_is i)))
    (ap (λ (t : List Node). run_from 1 lines t y) (sym ran.table_is) ∙ g)

pub ran_stuck : (program : Source) (lines : List Line) (j : Joined) (started : Source) (frame : ℕ) (y z : Symbols)
    (table left : List Node) (found : Option ℕ) (line : ℕ) → RanFrom program lines j started frame y table
    → found ≡ Some line → Ran found z left (run_from 1 lines table y)
    → run_of program lines ≡ record { table = left; ending = Stuck line }
ran_stuck program lines j started frame y z table left found line ran e g =
    ran_is program lines j started frame y table _ ran
    (subst (λ (o : Option ℕ). Ran o z left (run_from 1 lines table y)) e g)

pub ran_ended : (program : Source) (lines : List Line) (j : Joined) (started : Source) (frame : ℕ) (y z : Symbols)
    (table left : List Node) (found : Option ℕ) → RanFrom program lines j started frame y table
    → found ≡ None → Ran found z left (run_from 1 lines table y)
    → run_of program lines ≡ record { table = left; ending = Ended z }
ran_ended program lines j started frame y z table left found ran e g =
    ran_is program lines j started frame y table _ ran
    (subst (λ (o : Option ℕ). Ran o z left (run_from 1 lines table y)) e g)

pub ran_shape : (program : Source) (lines : List Line) (j : Joined) (started : Source) (frame : ℕ) (y z : Symbols)
    (table left : List Node) (found : Option ℕ) → RanFrom program lines j started frame y table
    → found ≡ None → Ran found z left (run_from 1 lines table y) → HasShape program (frame_of lines) z
ran_shape program lines j started frame y z table left found ran e g =
    run_shape program (frame_of lines) lines 1 table y z
    (subst (λ (n : ℕ). HasShape program n y) ran.frame_is (subst
    (λ (p : Source). HasShape p frame y) ran.same ran.shape))
    (ap (λ (r : SymbolicRun). r.ending) (subst (λ (o : Option ℕ). Ran o z left (run_from 1 lines table y)) e g))

-- a first part of the table that the code's run leaves is one of the run's
pub ran_part : {u : List Node} (program : Source) (lines : List Line) (j : Joined) (started : Source) (frame : ℕ)
    (y : Symbols) (table : List Node) → RanFrom program lines j started frame y table
    → Prefix u (run_from 1 lines table y).table → Prefix u (run_of program lines).table
ran_part {u} program lines j started frame y table ran p =
    subst (λ (r : SymbolicRun). Prefix u r.table) (sym (ran_is program lines j started frame y table _ ran refl)) p

-- the table before the run is one too
pub start_part : (program : Source) (lines : List Line) (j : Joined) (table : List Node)
    → j.base ≡ (source_made program).table → j.own ≡ [] → table ≡ joined_nodes j
    → Prefix table (run_of program lines).table
unfolding run_of
start_part program lines j table e f is =
    let t = (source_made program).table in
    subst (λ (u : List Node). Prefix u (run_of program lines).table) (sym (is ∙ only_base program j e f))
    (run_prefix lines 1 t (symbols_at_start t program (frame_of lines)))

-- ---- outputs

one_count : (role : Role) (words : List (Option ℕ)) (count : ℕ) → length words ≡ (if is_scalar role then 0 else count)
    → length (if is_output role then words else []) ≡ (if is_output role then count else 0)
one_count Output words count e = e
one_count InputArray words count e = refl
one_count InputScalar words count e = refl

words_count : (ps : List Param) (arrays : List Array) → HaveShapes ps arrays
    → length (flat_map (λ (a : Array). if is_output a.role then a.words else []) arrays) ≡ output_count ps
words_count [] [] h = refl
words_count [] (a ∷ arrays) h = absurd h
words_count (p ∷ ps) [] h = absurd h
words_count (p ∷ ps) (a ∷ arrays) h =
    let first = subst (λ (r : Role). length (if is_output r then a.words else [])
    ≡ (if is_output p.role then length p.bounds else 0))
    (sym h.0) (one_count p.role a.words (length p.bounds) h.1) in
    let rest = words_count ps arrays h.2 in
    length-append (if is_output a.role then a.words else [])
    (flat_map (λ (b : Array). if is_output b.role then b.words else []) arrays)
    ∙ (λ i. first i + rest i)

pub same_length : (program : Source) (frame : ℕ) (y : Symbols) (nodes : List ℕ) → HasShape program frame y
    → nodes ≡ source_outputs program → length (words_written y) ≡ length nodes
same_length program frame y nodes h e =
    words_count program.params y.arrays h.arrays ∙ sym (many_outputs program) ∙ ap (λ (ns : List ℕ). length ns) (sym e)

few_words : (ps : List Param) → AllByRecursion IsParam ps → output_count ps ≤ 32 * length ps
few_words [] all = omega arith
few_words (p ∷ ps) all =
    let rest = few_words ps all.1 in
    let most = all.0.words in
    few_if (is_output p.role) (length p.bounds) (output_count ps) (length ps) most rest where
      few_if : (b : Bool) (n rest many : ℕ) → n ≤ 32 → rest ≤ 32 * many → (if b then n else 0) + rest ≤ 32 * suc many
      few_if true n rest many h g = omega arith
      few_if false n rest many h g = omega arith

pub few_outputs : (program : Source) (nodes : List ℕ) → IsAccepted program → nodes ≡ source_outputs program
    → length nodes < 2 ^ 32
few_outputs program nodes accepted e =
    let same = ap (λ (ns : List ℕ). length ns) e ∙ many_outputs program in
    let few = few_words program.params accepted.params in
    let params = accepted.params_limit in
    omega arith

-- ---- verdicts

pub correct_is : (program : Source) (lines : List Line) (verdict : Verdict) → IsAccepted program → FitsLines lines
    → IsVerdict program lines verdict → SaysCorrect program lines verdict
correct_is program lines (Proved proof) accepted fit is = proved_is_correct program accepted lines fit is
correct_is program lines (Not why) accepted fit is = tt

-- what the code of the check wants
pub ruleset verdicts = (same_length, few_outputs, correct_is)
