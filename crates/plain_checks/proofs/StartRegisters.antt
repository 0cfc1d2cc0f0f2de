-- The registers at the start: a parameter's has its scalar or its own start, and every other one its own start.
use Rattle.std.proofs.Common.{◌≡◌, ◌≢◌, ℕ, zero, suc, ◌+◌, ◌<◌, ◌≤◌, Bool, true, false, List, [], ◌∷◌, length, refl}
use Rattle.std.proofs.Common.{sym}
use Rattle.std.proofs.Common.{ap, subst, ◌∙◌, arith, Option, Some, None}
use Rattle.std.proofs.lemmas.List.{get_or-set_same, get_or-set_other, length-set}
use Rattle.std.proofs.lemmas.List.FromFn.{get_or-range_with_len}
use Rattle.std.proofs.lemmas.Option.{same_Some, slice_get_within}
use Rattle.std.specs.Prelude.{slice_get, slice_index, slice_set, if◌then◌else◌}
use Rattle.std.specs.List.{range_with_len}
use Rattle.std.specs.Option.{option_map_or}
use Rattle.word_program.specs.declared.parameter.Param.{Param}
use Rattle.word_program.specs.Program.{Source}
use Rattle.word_program.specs.Values.{is_scalar}
use Rattle.x86_instr.specs.declared.operand.Reg.{Reg}
use Rattle.x86_instr.specs.declared.operand.Reg.TheVariants.{Rax, Rcx, Rdx, Rbx, Rsp, Rbp, Rsi, Rdi, R8, R9, R10, R11}
use Rattle.x86_instr.specs.declared.operand.Reg.TheVariants.{R12, R13, R14, R15}
use Rattle.x86_instr.specs.Registers.{number_of}
use Rattle.terms.specs.declared.nodes.Node.{Node}
use Rattle.symbolic_state.specs.Cells.{param_in}
use Rattle.symbolic_state.specs.Starts.{input_node, with_scalars}
use Rattle.symbolic_state.proofs.LaterTables.{number_below}
use Rattle.plain_lower.specs.Frame.{param_reg}
use Rattle.plain_checks.proofs.Lists.{found}
use Rattle.plain_checks.proofs.Nodes.{table_of}
use Rattle.plain_checks.proofs.Between.{is_saved, param_node}

-- ---- which registers pass parameters

-- the number of a parameter's register
abbrev place : ℕ → ℕ
place param = number_of (param_reg param)

place_known : (param : ℕ) → param < 6 → param_in (place param) ≡ Some param
place_known zero h = refl
place_known (suc zero) h = refl
place_known (suc (suc zero)) h = refl
place_known (suc (suc (suc zero))) h = refl
place_known (suc (suc (suc (suc zero)))) h = refl
place_known (suc (suc (suc (suc (suc zero))))) h = refl
place_known (suc (suc (suc (suc (suc (suc n)))))) h = absurd (omega arith)

-- two parameters have two registers
places_apart : (i j : ℕ) → i < 6 → j < 6 → i ≢ j → place i ≢ place j
places_apart i j h k other e = other (same_Some i j (sym (place_known i h) ∙ ap param_in e ∙ place_known j k))

-- a register that passes no parameter
place_free : (n : ℕ) → param_in n ≡ None → (j : ℕ) → j < 6 → place j ≢ n
place_free n none j h e =
    let both : Some j ≡ None = sym (place_known j h) ∙ ap param_in e ∙ none in cc

saved_free : (r : Reg) → is_saved r ≡ true → param_in (number_of r) ≡ None
saved_free Rax e = absurd (cc)
saved_free Rcx e = absurd (cc)
saved_free Rdx e = absurd (cc)
saved_free Rbx e = refl
saved_free Rsp e = absurd (cc)
saved_free Rbp e = refl
saved_free Rsi e = absurd (cc)
saved_free Rdi e = absurd (cc)
saved_free R8 e = absurd (cc)
saved_free R9 e = absurd (cc)
saved_free R10 e = absurd (cc)
saved_free R11 e = absurd (cc)
saved_free R12 e = refl
saved_free R13 e = refl
saved_free R14 e = refl
saved_free R15 e = refl

-- ---- the scalars' nodes

by_scalar : (b : Bool) (regs : List ℕ) (i n at : ℕ) → at ≢ i
    → slice_index (if b then slice_set regs i n else regs) at ≡ slice_index regs at
by_scalar true regs i n at other = get_or-set_other regs i at n 0 other
by_scalar false regs i n at other = refl

long_still : (b : Bool) (regs : List ℕ) (i n : ℕ) → length (if b then slice_set regs i n else regs) ≡ length regs
long_still true regs i n = length-set regs i n
long_still false regs i n = refl

pub scalars_long : (t : List Node) (params : List Param) (k : ℕ) (ps : List Param) (regs : List ℕ)
    → length (with_scalars t params k ps regs) ≡ length regs
scalars_long t params k [] regs = refl
scalars_long t params k (p ∷ ps) regs =
    scalars_long t params (k + 1) ps
    (if is_scalar p.role then slice_set regs (place k) (input_node t params k 0) else regs)
    ∙ long_still (is_scalar p.role) regs (place k) (input_node t params k 0)

-- a register that none of these parameters has stays as it is
scalars_other : (t : List Node) (params : List Param) (k : ℕ) (ps : List Param) (regs : List ℕ) (at : ℕ)
    → ((j : ℕ) → k ≤ j → j < k + length ps → at ≢ place j)
    → slice_index (with_scalars t params k ps regs) at ≡ slice_index regs at
scalars_other t params k [] regs at other = refl
scalars_other t params k (p ∷ ps) regs at other =
    scalars_other t params (k + 1) ps
    (if is_scalar p.role then slice_set regs (place k) (input_node t params k 0) else regs) at
    (λ (j : ℕ) (h : k + 1 ≤ j) (w : j < k + 1 + length ps). other j (omega arith) (omega arith))
    ∙ by_scalar (is_scalar p.role) regs (place k) (input_node t params k 0) at (other k (omega arith) (omega arith))

-- what a parameter's register holds
abbrev held : Bool → ℕ → ℕ → ℕ
held b input start = if b then input else start

set_here : (b : Bool) (regs : List ℕ) (i n : ℕ) → i < length regs
    → slice_index (if b then slice_set regs i n else regs) i ≡ held b n (slice_index regs i)
set_here true regs i n h = get_or-set_same regs i n 0 h
set_here false regs i n h = refl

scalars_here : (t : List Node) (params : List Param) (k : ℕ) (ps : List Param) (regs : List ℕ) (i j : ℕ) (p : Param)
    → j ≡ k + i → slice_get ps i ≡ Some p → k + length ps ≤ 6 → length regs ≡ 16
    → slice_index (with_scalars t params k ps regs) (place j)
    ≡ held (is_scalar p.role) (input_node t params j 0) (slice_index regs (place j))
scalars_here t params k [] regs i j p same e few long = absurd (cc)
scalars_here t params k (q ∷ ps) regs zero j p same e few long =
    let is : q ≡ p = cc in
    let first : j ≡ k = omega arith in
    let next : List ℕ = if is_scalar q.role then slice_set regs (place k) (input_node t params k 0) else regs in
    let inside : place k < length regs = let b = number_below (param_reg k) in omega arith in
    subst (λ (n : ℕ). slice_index (with_scalars t params k (q ∷ ps) regs) (place n)
    ≡ held (is_scalar p.role) (input_node t params n 0) (slice_index regs (place n))) (sym first)
    (scalars_other t params (k + 1) ps next (place k)
    (λ (m : ℕ) (h : k + 1 ≤ m) (w : m < k + 1 + length ps).
    places_apart k m (omega arith) (omega arith) (λ (f : k ≡ m). absurd (omega arith)))
    ∙ set_here (is_scalar q.role) regs (place k) (input_node t params k 0) inside
    ∙ ap (λ (x : Param). held (is_scalar x.role) (input_node t params k 0) (slice_index regs (place k))) is)
scalars_here t params k (q ∷ ps) regs (suc i) j p same e few long =
    let next : List ℕ = if is_scalar q.role then slice_set regs (place k) (input_node t params k 0) else regs in
    let rest = scalars_here t params (k + 1) ps next i j p (omega arith) e (omega arith)
    (long_still (is_scalar q.role) regs (place k) (input_node t params k 0) ∙ long) in
    let within : i < length ps = slice_get_within ps i p e in
    rest ∙ ap (held (is_scalar p.role) (input_node t params j 0))
    (by_scalar (is_scalar q.role) regs (place k) (input_node t params k 0) (place j)
    (places_apart j k (omega arith) (omega arith) (λ (f : j ≡ k). absurd (omega arith))))

-- ---- the start

-- what the registers hold at the start
abbrev pub start_regs : Source → List ℕ
start_regs program = with_scalars (table_of program) program.params 0 program.params (range_with_len 0 16)

first_is : (n : ℕ) → n < 16 → slice_index (range_with_len 0 16) n ≡ n
first_is n h = get_or-range_with_len 0 16 n 0 h ∙ omega arith

pub start_long : (program : Source) → length (start_regs program) ≡ 16
start_long program = scalars_long (table_of program) program.params 0 program.params (range_with_len 0 16)

-- a register that passes no parameter has its own start
start_free : (program : Source) → length program.params ≤ 6 → (n : ℕ) → n < 16 → param_in n ≡ None
    → slice_index (start_regs program) n ≡ n
start_free program few n h none =
    scalars_other (table_of program) program.params 0 program.params (range_with_len 0 16) n
    (λ (j : ℕ) (low : 0 ≤ j) (high : j < 0 + length program.params) (e : n ≡ place j).
    place_free n none j (omega arith) (sym e))
    ∙ first_is n h

pub start_saved : (program : Source) → length program.params ≤ 6 → (r : Reg) → is_saved r ≡ true
    → slice_index (start_regs program) (number_of r) ≡ number_of r
start_saved program few r e = start_free program few (number_of r) (number_below r) (saved_free r e)

pub start_stack : (program : Source) → length program.params ≤ 6 → slice_index (start_regs program) 4 ≡ 4
start_stack program few = start_free program few 4 (omega arith) refl

-- and a parameter's register has the parameter's node
pub start_param : (program : Source) → length program.params ≤ 6 → (param : ℕ) → param < length program.params
    → slice_index (start_regs program) (number_of (param_reg param)) ≡ param_node program param
start_param program few param h =
    let there = found program.params param h in
    scalars_here (table_of program) program.params 0 program.params (range_with_len 0 16) param param there.0
    (omega arith) there.1 (omega arith) refl
    ∙ ap (held (is_scalar there.0.role) (input_node (table_of program) program.params param 0))
    (first_is (place param) (number_below (param_reg param)))
    ∙ ap (λ (o : Option Param). if option_map_or (λ p. is_scalar p.role) o false
    then input_node (table_of program) program.params param 0 else number_of (param_reg param)) (sym there.1)

-- no parameter comes in the stack pointer, nor is it among the registers that are given back
pub param_not_stack : (param : ℕ) → param < 6 → number_of (param_reg param) ≢ 4
param_not_stack param h = place_free 4 refl param h

pub saved_not_stack : (r : Reg) → is_saved r ≡ true → number_of r ≢ 4
saved_not_stack Rax e = absurd (cc)
saved_not_stack Rcx e = absurd (cc)
saved_not_stack Rdx e = absurd (cc)
saved_not_stack Rbx e = λ f. absurd (omega arith)
saved_not_stack Rsp e = absurd (cc)
saved_not_stack Rbp e = λ f. absurd (omega arith)
saved_not_stack Rsi e = absurd (cc)
saved_not_stack Rdi e = absurd (cc)
saved_not_stack R8 e = absurd (cc)
saved_not_stack R9 e = absurd (cc)
saved_not_stack R10 e = absurd (cc)
saved_not_stack R11 e = absurd (cc)
saved_not_stack R12 e = λ f. absurd (omega arith)
saved_not_stack R13 e = λ f. absurd (omega arith)
saved_not_stack R14 e = λ f. absurd (omega arith)
saved_not_stack R15 e = λ f. absurd (omega arith)
