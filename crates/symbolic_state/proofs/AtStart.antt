-- The symbolic state at the start of a listing agrees with the machine's start, fits, and has its shape.
use Rattle.std.proofs.Common.{◌≡◌, ◌≢◌, ℕ, zero, suc, ◌+◌, ◌/◌, ◌<◌, ◌≤◌, ◌==◌, Bool, true, false, List, [], ◌∷◌}
use Rattle.std.proofs.Common.{length}
use Rattle.std.proofs.Common.{map, replicate, Some, None, IsFalse, IsSomeAnd, slice_get}
use Rattle.std.proofs.Common.{All, slice_index, slice_set, if◌then◌else◌, length-set, refl, sym, ap, ◌∙◌, subst, arith}
use Rattle.std.proofs.Common.{get_or-set_same, get_or-set_other}
use Rattle.std.specs.FinMap as finite
use Rattle.std.specs.List.{AllByRecursion, range_with_len}
use Rattle.std.specs.Option.{option_map_or}
use Rattle.std.proofs.lemmas.Bool.Decides.{nat_tests}
use Rattle.std.proofs.lemmas.List.{length-replicate}
use Rattle.std.proofs.lemmas.List.Elements.{All-from_get_or, All-set}
use Rattle.std.proofs.lemmas.List.FromFn.{get_or-range_with_len, length-map-range_with_len}
use Rattle.std.proofs.lemmas.Option.{same_Some}
use Rattle.word_program.specs.declared.operation.Operand.TheVariants as operands
use Rattle.word_program.specs.declared.parameter.Param.{Param}
use Rattle.word_program.specs.declared.parameter.Role.{Role}
use Rattle.word_program.specs.declared.parameter.Role.TheVariants.{Output, InputArray, InputScalar}
use Rattle.word_program.specs.Accepted.{IsAccepted, IsOperand, IsParam}
use Rattle.word_program.specs.Program.{Source}
use Rattle.word_program.specs.Values.{input_word, is_input_array, is_output, is_scalar}
use Rattle.x86_instr.specs.declared.line.Line.{Line}
use Rattle.x86_instr.specs.Frame.{frame_of}
use Rattle.x86_instr.specs.Registers.{number_of}
use Rattle.x86_meaning.specs.declared.state.State.{State}
use Rattle.x86_meaning.specs.Start.{Area, Array, Frame, Return, IsStart, address_of, param_reg}
use Rattle.x86_meaning.proofs.Keeping.{keeps_start}
use Rattle.terms.specs.declared.nodes.Node.{Node}
use Rattle.symbolic_state.specs.Symbols as symbols
use Rattle.symbolic_state.specs.Symbols.{Symbols, node_in}
use Rattle.symbolic_state.specs.Cells.{known, node_of}
use Rattle.symbolic_state.specs.Starts.{array_at_start, arrays_at_start, input_node, symbols_at_start, with_scalars}
use Rattle.symbolic_state.specs.Fitting.{AreKnown, FitsTable, HasShape, HaveShapes}
use Rattle.symbolic_state.specs.Agreeing.{Agrees}
use Rattle.symbolic_state.proofs.KnownCells.{all_at, array_known}
use Rattle.symbolic_state.proofs.LaterTables.{number_below}

-- ---- words of parameters

-- the word is one of an input parameter
abbrev pub IsInput : List Param → ℕ → ℕ → Type 0
IsInput params param word = IsOperand params 0 (operands.Input param word)

scalar_word : (role : Role) (n : ℕ) → is_scalar role ≡ true → 1 ≤ n → 0 < (if is_scalar role then n else 0)
scalar_word Output n e h = cc
scalar_word InputArray n e h = cc
scalar_word InputScalar n e h = h

scalar_input : (role : Role) → is_scalar role ≡ true → IsFalse (is_output role)
scalar_input Output e = cc
scalar_input InputArray e = refl
scalar_input InputScalar e = refl

array_is_input : (role : Role) → is_input_array role ≡ true → IsFalse (is_output role)
array_is_input Output e = cc
array_is_input InputArray e = refl
array_is_input InputScalar e = refl

input_array_word : (role : Role) (n word : ℕ) → is_input_array role ≡ true → word < n
    → word < (if is_input_array role then n else 0)
input_array_word Output n word e h = cc
input_array_word InputArray n word e h = h
input_array_word InputScalar n word e h = cc

input_at : (params : List Param) (param word : ℕ) (p : Param) → slice_get params param ≡ Some p
    → IsFalse (is_output p.role) → word < length p.bounds → IsInput params param word
input_at params param word p e out h = subst
    (λ o. IsSomeAnd o (λ q. IsFalse (is_output q.role) × (word < length q.bounds)))
    (sym e) (out, h)

-- ---- the registers

-- a list of nodes whose words are those of the registers stays one with a node of such a word
set_keeps : (val : ℕ → ℕ) (f : ℕ → ℕ) (nodes : List ℕ) (i n : ℕ) → val n ≡ f i
    → ((k : ℕ) → k < length nodes → f k ≡ val (slice_index nodes k))
    → (k : ℕ) → k < length nodes → f k ≡ val (slice_index (slice_set nodes i n) k)
set_keeps val f nodes i n e h k below = at (k == i) refl where
  at : (b : Bool) → (k == i) ≡ b → f k ≡ val (slice_index (slice_set nodes i n) k)
  at true is = let same : i ≡ k = grind (arith, nat_tests, is) in
      subst (λ j. f j ≡ val (slice_index (slice_set nodes i n) j)) same
      (sym (ap val (get_or-set_same nodes i n 0 (subst (λ j. j < length nodes) (sym same) below)) ∙ e))
  at false is = let other : k ≢ i = λ j. absurd (grind (arith, nat_tests, is, j)) in
      h k below ∙ sym (ap val (get_or-set_other nodes i k n 0 other))

-- ---- what is known

unknown_words : (count word n : ℕ) → known (replicate count None) word ≡ Some n → ⊥
unknown_words zero word n e = cc
unknown_words (suc count) zero n e = cc
unknown_words (suc count) (suc word) n e = unknown_words count word n e

-- the words of a list of known nodes
known_of_map : (f : ℕ → ℕ) (from count word n : ℕ)
    → known (map (λ w. Some (f w)) (range_with_len from count)) word ≡ Some n
    → (word < count) × (f (from + word) ≡ n)
known_of_map f from zero word n e = absurd cc
known_of_map f from (suc count) zero n e =
    let at : f from ≡ n = same_Some (f from) n e in let none : from + 0 ≡ from = omega arith in
    (omega arith, ap f none ∙ at)
known_of_map f from (suc count) (suc word) n e =
    let rest = known_of_map f (from + 1) count word n e in
    let below = rest.0 in
    let next : from + suc word ≡ from + 1 + word = omega arith in
    (omega (arith, below), ap f next ∙ rest.1)

-- the array of the parameter with a number
array_of : (table : List Node) (params : List Param) (from : ℕ) (ps : List Param) (q : ℕ) (a : symbols.Array)
    → slice_get (arrays_at_start table params from ps) q ≡ Some a
    → (p : Param) × (slice_get ps q ≡ Some p) × (a ≡ array_at_start table params (from + q) p)
array_of table params from [] q a e = absurd cc
array_of table params from (p ∷ ps) zero a e =
    let none : from ≡ from + 0 = omega arith in (
      p,
      refl,
      sym (same_Some (array_at_start table params from p) a e)
          ∙ ap (λ k. array_at_start table params k p) none,
    )
array_of table params from (p ∷ ps) (suc q) a e =
    let rest = array_of table params (from + 1) ps q a e in
    let next : from + 1 + q ≡ from + suc q = omega arith in
    (rest.0, rest.1, rest.2 ∙ ap (λ k. array_at_start table params k rest.0) next)

-- a known word at the start is one of an input array
role_known : (f : ℕ → ℕ) (role : Role) (count word n : ℕ)
    → known (if is_scalar role then [] else if is_output role then replicate count None else
    map (λ w. Some (f w)) (range_with_len 0 count)) word ≡ Some n
    → (is_input_array role ≡ true) × (word < count) × (f word ≡ n)
role_known f Output count word n e = absurd (unknown_words count word n e)
role_known f InputArray count word n e =
    let k = known_of_map f 0 count word n e in
    let none : word ≡ 0 + word = omega arith in (refl, k.0, ap f none ∙ k.1)
role_known f InputScalar count word n e = absurd cc

-- ---- fitting

none_known : (t : List Node) (count : ℕ) → AreKnown t (replicate count None)
none_known t zero = tt
none_known t (suc count) = (tt, none_known t count)

inputs_known : (t : List Node) (f : ℕ → ℕ) (from count : ℕ) → ((w : ℕ) → w < from + count → f w < length t)
    → AreKnown t (map (λ w. Some (f w)) (range_with_len from count))
inputs_known t f from zero h = tt
inputs_known t f from (suc count) h =
    (h from (omega arith), inputs_known t f (from + 1) count (λ w below. h w (omega (arith, below))))

role_fits : (t : List Node) (f : ℕ → ℕ) (role : Role) (count : ℕ)
    → (IsFalse (is_output role) → (w : ℕ) → w < count → f w < length t)
    → AreKnown t (if is_scalar role then [] else if is_output role then replicate count None else
    map (λ w. Some (f w)) (range_with_len 0 count))
role_fits t f Output count h = none_known t count
role_fits t f InputArray count h = inputs_known t f 0 count (λ w below. h refl w (omega (arith, below)))
role_fits t f InputScalar count h = tt

-- ---- shapes

role_length : (f : ℕ → ℕ) (role : Role) (count : ℕ)
    → length (if is_scalar role then [] else if is_output role then replicate count None else
    map (λ w. Some (f w)) (range_with_len 0 count)) ≡ (if is_scalar role then 0 else count)
role_length f Output count = length-replicate count None
role_length f InputArray count = length-map-range_with_len (λ w. Some (f w)) 0 count
role_length f InputScalar count = refl

arrays_shape : (t : List Node) (params : List Param) (from : ℕ) (ps : List Param)
    → HaveShapes ps (arrays_at_start t params from ps)
arrays_shape t params from [] = tt
arrays_shape t params from (p ∷ ps) = (
  refl,
  role_length (input_node t params from) p.role (length p.bounds),
  arrays_shape t params (from + 1) ps,
)

pub start_shape : (t : List Node) (program : Source) (frame : ℕ)
    → HasShape program frame (symbols_at_start t program frame)
unfolding symbols_at_start
start_shape t program frame = record {
  arrays = arrays_shape t program.params 0 program.params;
  frame_words = length-replicate (frame / 8) None;
  overlap = refl;
}

-- ---- in a table that begins with the program's nodes

-- the rest of the parameters, from one on
abbrev FromOn : List Param → ℕ → List Param → Type 0
FromOn params from ps = (j : ℕ) → slice_get ps j ≡ slice_get params (from + j)

next_on : (params : List Param) (from : ℕ) (p : Param) (ps : List Param) → FromOn params from (p ∷ ps)
    → FromOn params (from + 1) ps
next_on params from p ps h j = let e : from + suc j ≡ from + 1 + j = omega arith in
    h (suc j) ∙ ap (slice_get params) e

first_on : (params : List Param) (from : ℕ) (p : Param) (ps : List Param) → FromOn params from (p ∷ ps)
    → slice_get params from ≡ Some p
first_on params from p ps h = let e : from ≡ from + 0 = omega arith in ap (slice_get params) e ∙ sym (h 0)

module _ (program : Source) (accepted : IsAccepted program) (t : List Node) (long : 16 ≤ length t)
    (inside : (param word : ℕ) → IsInput program.params param word → input_node t program.params param word < length t)
  where
    -- the number of a scalar's parameter
    scalar_is_input : (from : ℕ) (p : Param) → slice_get program.params from ≡ Some p → is_scalar p.role ≡ true
        → IsInput program.params from 0
    scalar_is_input from p e s =
        let some_words = (all_at IsParam program.params from p accepted.params e).some_words in
        input_at program.params from 0 p e (scalar_input p.role s) (omega arith)

    -- what holds of a list of nodes and stays so with a scalar's node holds of the start's registers
    with_scalars_so : (P : List ℕ → Type 0)
        → ((from : ℕ) (p : Param) (nodes : List ℕ) → slice_get program.params from ≡ Some p → is_scalar p.role ≡ true
        → P nodes → P (slice_set nodes (number_of (param_reg from)) (input_node t program.params from 0)))
        → (from : ℕ) (ps : List Param) (nodes : List ℕ) → FromOn program.params from ps → P nodes
        → P (with_scalars t program.params from ps nodes)
    with_scalars_so P step from [] nodes on h = h
    with_scalars_so P step from (p ∷ ps) nodes on h =
        with_scalars_so P step (from + 1) ps _ (next_on program.params from p ps on) (at (is_scalar p.role) refl) where
          at : (b : Bool) → is_scalar p.role ≡ b
              → P (if b then slice_set nodes (number_of (param_reg from)) (input_node t program.params from 0)
              else nodes)
          at true e = step from p nodes (first_on program.params from p ps on) e h
          at false e = h

    numbers_inside : (k : ℕ) → k < length (range_with_len 0 16) → slice_index (range_with_len 0 16) k < length t
    numbers_inside k h = let e = get_or-range_with_len 0 16 k 0 h in omega (arith, e, h)

    arrays_inside : (from : ℕ) (ps : List Param) → FromOn program.params from ps
        → AllByRecursion (λ a. AreKnown t a.words) (arrays_at_start t program.params from ps)
    arrays_inside from [] on = tt
    arrays_inside from (p ∷ ps) on = (
      role_fits t (input_node t program.params from) p.role (length p.bounds)
          (λ out w h. inside from w (input_at program.params from w p (first_on program.params from p ps on) out h)),
      arrays_inside (from + 1) ps (next_on program.params from p ps on),
    )

    whole_on : FromOn program.params 0 program.params
    whole_on j = let e : j ≡ 0 + j = omega arith in ap (slice_get program.params) e

    pub start_fits : (frame : ℕ) → FitsTable t (symbols_at_start t program frame)
    unfolding symbols_at_start
    start_fits frame = record {
      sixteen = with_scalars_so (λ (nodes : List ℕ). length nodes ≡ 16)
          (λ from p nodes e s h. length-set nodes (number_of (param_reg from)) (input_node t program.params from 0) ∙ h)
          0 program.params (range_with_len 0 16) whole_on refl;
      registers = with_scalars_so (All (λ n. n < length t))
          (λ from p nodes e s h. All-set (λ n. n < length t) nodes (number_of (param_reg from))
          (input_node t program.params from 0) (inside from 0 (scalar_is_input from p e s)) h)
          0 program.params (range_with_len 0 16) whole_on
          (All-from_get_or (λ n. n < length t) (range_with_len 0 16) 0 numbers_inside);
      cf = tt;
      of = tt;
      zf = tt;
      arrays = arrays_inside 0 program.params whole_on;
      frame = none_known t (frame / 8);
    }

    -- ---- in a run

    module _ (lines : List Line) (inputs : List ℕ) (first : State) (start : IsStart program lines inputs first)
        (val : ℕ → ℕ) (starts : (k : ℕ) → k < 16 → val k ≡ slice_index first.regs k)
        (words : (param word : ℕ) → IsInput program.params param word
        → val (input_node t program.params param word) ≡ input_word program.params inputs param word) where
      -- a list of nodes whose words are those of the registers
      record HasWords (nodes : List ℕ) : Type 0 where
        pub sixteen : length nodes ≡ 16
        pub each : (k : ℕ) → k < length nodes → slice_index first.regs k ≡ val (slice_index nodes k)

      first_words : HasWords (range_with_len 0 16)
      first_words = record {
        sixteen = refl;
        each = λ k h.
            let e = get_or-range_with_len 0 16 k 0 h in
            let same : k ≡ slice_index (range_with_len 0 16) k = omega (arith, e) in
            sym (starts k h) ∙ ap val same;
      }

      scalar_word_is : (from : ℕ) (p : Param) → slice_get program.params from ≡ Some p → is_scalar p.role ≡ true
          → val (input_node t program.params from 0) ≡ slice_index first.regs (number_of (param_reg from))
      scalar_word_is from p e s =
          let some_words = (all_at IsParam program.params from p accepted.params e).some_words in
          words from 0 (scalar_is_input from p e s)
          ∙ sym (start.scalars from
          (subst (λ o. 0 < option_map_or (λ q. if is_scalar q.role then length q.bounds else 0) o 0) (sym e)
          (scalar_word p.role (length p.bounds) s some_words)))

      all_words : HasWords (with_scalars t program.params 0 program.params (range_with_len 0 16))
      all_words = with_scalars_so HasWords
          (λ from p nodes e s h. record {
            sixteen = length-set nodes (number_of (param_reg from)) (input_node t program.params from 0) ∙ h.sixteen;
            each = λ k below. set_keeps val (slice_index first.regs) nodes (number_of (param_reg from))
                (input_node t program.params from 0) (scalar_word_is from p e s) h.each k
                (subst (λ n. k < n)
                (length-set nodes (number_of (param_reg from)) (input_node t program.params from 0)) below);
          })
          0 program.params (range_with_len 0 16) whole_on first_words

      -- the words of an input array
      array_holds : (q word n : ℕ) (a : symbols.Array) (p : Param) → slice_get program.params q ≡ Some p
          → a ≡ array_at_start t program.params (0 + q) p → known a.words word ≡ Some n
          → finite.get first.cells (address_of first (frame_of lines) (Array q) word) ≡ Some (val n)
      array_holds q word n a p e same k =
          let none : 0 + q ≡ q = omega arith in
          let here : a ≡ array_at_start t program.params q p =
          same ∙ ap (λ m. array_at_start t program.params m p) none in
          let w = role_known (input_node t program.params q) p.role (length p.bounds) word n
          (subst (λ (b : symbols.Array). known b.words word ≡ Some n) here k) in
          start.arrays q word (subst (λ o. word < option_map_or
          (λ r. if is_input_array r.role then length r.bounds else 0) o 0) (sym e)
          (input_array_word p.role (length p.bounds) word w.0 w.1))
          ∙ ap Some
          (sym (words q word (input_at program.params q word p e (array_is_input p.role w.0) w.1)) ∙ ap val w.2)

      memory_agrees : (area : Area) (word n : ℕ)
          → node_of (symbols_at_start t program (frame_of lines)) area word ≡ Some n
          → finite.get first.cells (address_of first (frame_of lines) area word) ≡ Some (val n)
      unfolding symbols_at_start
      memory_agrees (Array q) word n e = array_known (symbols_at_start t program (frame_of lines)) q word n
          (λ a there k. let at = array_of t program.params 0 program.params q a there in
          array_holds q word n a at.0 at.1 at.2 k) e
      memory_agrees Frame word n e = absurd (unknown_words (frame_of lines / 8) word n e)
      memory_agrees Return word n e = absurd cc

      pub start_agrees : Agrees program (frame_of lines) first val (symbols_at_start t program (frame_of lines)) first
      unfolding symbols_at_start
      start_agrees = record {
        sixteen = start.state.sixteen;
        registers = λ r. all_words.each (number_of r)
            (subst (λ n. number_of r < n) (sym all_words.sixteen) (number_below r));
        cf = tt;
        of = tt;
        zf = tt;
        memory = memory_agrees;
        keeps = keeps_start program.params (frame_of lines) first;
      }
