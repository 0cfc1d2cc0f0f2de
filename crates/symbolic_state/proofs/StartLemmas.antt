-- The state at the start over a table that begins with the program's nodes, and its making word by word.
use Rattle.std.proofs.Common.{◌≡◌, ℕ, zero, suc, ◌+◌, ◌<◌, ◌≤◌, List, [], ◌∷◌, ◌++◌, length, map, drop, get_or}
use Rattle.std.proofs.Common.{replicate, Option, Some, None, refl, sym, ap, subst, zero-add, arith}
use Rattle.std.specs.Prelude.{slice_get, IsFalse, if◌then◌else◌, slice_set}
use Rattle.std.specs.List.{AllByRecursion, range_with_len}
use Rattle.std.proofs.lemmas.List.{drop_more, length-replicate}
use Rattle.std.proofs.lemmas.List.FromFn.{length-map-range_with_len, map-range_with_len_more}
use Rattle.std.proofs.lemmas.Option.{slice_get_within}
use Rattle.word_program.specs.declared.parameter.Param.{Param}
use Rattle.word_program.specs.declared.parameter.Role.TheVariants.{InputScalar}
use Rattle.word_program.specs.Program.{Source}
use Rattle.word_program.specs.Values.{is_output, is_scalar}
use Rattle.word_program.specs.Accepted.{IsAccepted, IsParam}
use Rattle.x86_instr.specs.Registers.{number_of}
use Rattle.x86_meaning.specs.Start.{param_reg}
use Rattle.terms.specs.declared.nodes.Node.{Node}
use Rattle.terms.specs.Tables.{Prefix}
use Rattle.term_store.specs.Interning.{Interned, made}
use Rattle.symbolic_state.specs.Symbols.{Symbols}
use Rattle.symbolic_state.specs.Starts.{array_at_start, arrays_at_start, input_node}
use Rattle.program_nodes.specs.Sources.{input_form, source_made}
use Rattle.symbolic_state.specs.Starts.{symbols_at_start, with_scalars}
use Rattle.symbolic_state.specs.Fitting.{FitsTable, HasShape}
use Rattle.term_store.proofs.Prefixes.{prefix_length}
use Rattle.program_nodes.proofs.SourceStarts.{input_there, source_starts}
use Rattle.symbolic_state.proofs.AtStart.{IsInput, start_fits, start_shape}

-- ---- input words

-- making the form of an input word again leaves the table as it is
pub input_again : (program : Source) (u : List Node) (param word : ℕ) → IsAccepted program
    → Prefix (source_made program).table u → IsInput program.params param word
    → (made u (input_form program.params param word)).table ≡ u
input_again program u param word accepted begins input =
    let there = input_there program accepted param word input in
    ap (λ (i : Interned). i.table) (there.found u begins)

input_inside : (program : Source) (u : List Node) (param word : ℕ) → IsAccepted program
    → Prefix (source_made program).table u → IsInput program.params param word
    → input_node u program.params param word < length u
input_inside program u param word accepted begins input =
    let there = input_there program accepted param word input in
    let inside : there.number < length (source_made program).table = there.inside in
    let longer = prefix_length begins in
    subst (λ n. n < length u) (sym (ap (λ (i : Interned). i.number) (there.found u begins))) (omega arith)

-- ---- the whole state

source_long : (program : Source) → IsAccepted program → 16 ≤ length (source_made program).table
source_long program accepted =
    slice_get_within (source_made program).table 15 _ (source_starts program accepted 15 (omega arith))

pub fits_at_start : (program : Source) (u : List Node) (frame : ℕ) (y : Symbols) → IsAccepted program
    → Prefix (source_made program).table u → y ≡ symbols_at_start u program frame → FitsTable u y
fits_at_start program u frame y accepted begins is =
    let long = source_long program accepted in
    let longer = prefix_length begins in
    rw is (start_fits program accepted u (omega arith)
    (λ param word input. input_inside program u param word accepted begins input) frame)

pub shape_at_start : (program : Source) (u : List Node) (frame : ℕ) (y : Symbols)
    → y ≡ symbols_at_start u program frame → HasShape program frame y
shape_at_start program u frame y is = rw is (start_shape u program frame)

-- ---- word by word

pub words_more : (f : ℕ → Option ℕ) (n : ℕ) → map f (range_with_len 0 (n + 1)) ≡ map f (range_with_len 0 n) ++ f n ∷ []
words_more f n = map-range_with_len_more f 0 n n (zero-add n)

pub few_unknown : (count : ℕ) → count ≤ 32 → length (replicate {A = Option ℕ} count None) ≤ 32
few_unknown count few = omega (arith, length-replicate {A = Option ℕ} count None)

pub few_inputs : (f : ℕ → Option ℕ) (count : ℕ) → count ≤ 32 → length (map f (range_with_len 0 count)) ≤ 32
few_inputs f count few = omega (arith, length-map-range_with_len f 0 count)

-- ---- parameter by parameter

pub input_param : (params : List Param) (n word : ℕ) (p : Param) → slice_get params n ≡ Some p
    → IsFalse (is_output p.role) → word < length p.bounds → IsInput params n word
input_param params n word p e input h = rw e (input, h)

pub param_at : (params : List Param) (i : ℕ) (d : Param) → AllByRecursion IsParam params → i < length params
    → IsParam (get_or params i d)
param_at [] i d all h = absurd (omega arith)
param_at (p ∷ ps) zero d all h = all.0
param_at (p ∷ ps) (suc i) d all h = param_at ps i d all.1 (omega arith)

pub param_there : (params : List Param) (i n : ℕ) (d : Param) → n ≡ i → i < length params
    → slice_get params n ≡ Some (get_or params i d)
param_there [] i n d e h = absurd (omega arith)
param_there (p ∷ ps) zero n d e h = rw e refl
param_there (p ∷ ps) (suc i) n d e h = rw e (param_there ps i i d refl (omega arith))

-- the next parameter's array
pub arrays_step : (t : List Node) (params : List Param) (n i : ℕ) (d : Param) → i < length params
    → arrays_at_start t params n (drop i params)
    ≡ array_at_start t params n (get_or params i d) ∷ arrays_at_start t params (n + 1) (drop (i + 1) params)
arrays_step t params n i d h = rw (drop_more params i d h) refl

-- the next parameter's register
pub scalars_step : (t : List Node) (params : List Param) (n i : ℕ) (d : Param) (regs : List ℕ) → i < length params
    → with_scalars t params n (drop i params) regs
    ≡ with_scalars t params (n + 1) (drop (i + 1) params) (if is_scalar (get_or params i d).role then
    slice_set regs (number_of (param_reg n)) (input_node t params n 0) else regs)
scalars_step t params n i d regs h = rw (drop_more params i d h) refl

-- a scalar is an input, and has a first word
pub scalar_param : (params : List Param) (n : ℕ) (p : Param) → slice_get params n ≡ Some p → IsParam p
    → p.role ≡ InputScalar → IsInput params n 0
scalar_param params n p e is role =
    let some_words = is.some_words in input_param params n 0 p e (rw role refl) (omega arith)

-- ---- what the code's goals want

pub ruleset inputs = (input_again, input_param, scalar_param, words_more, few_unknown, few_inputs)

pub ruleset next_params = (arrays_step, scalars_step, param_at, param_there)
