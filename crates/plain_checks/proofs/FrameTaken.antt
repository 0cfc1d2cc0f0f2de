-- The frame of a plain listing: its size, and the state behind the first line, which takes it.
use Rattle.std.proofs.Common.{◌≡◌, ◌≢◌, ℕ, ◌+◌, ◌*◌, ◌-◌, ◌/◌, ◌%◌, ◌^◌, ◌<◌, ◌≤◌, Bool, true, List}
use Rattle.std.proofs.Common.{[], ◌∷◌, length, Some, None, refl, sym, ap, subst, ◌∙◌, arith}
use Rattle.std.proofs.lemmas.Bool.Decides.{nat_tests}
use Rattle.std.proofs.lemmas.List.{get_or-set_same, get_or-set_other, length-set, length-replicate}
use Rattle.std.specs.Prelude.{◌==◌, ◌&&◌, nat_le, slice_index, if◌then◌else◌}
use Rattle.word_program.specs.declared.parameter.Param.{Param}
use Rattle.word_program.specs.Program.{Source}
use Rattle.word_program.specs.Values.{targets_of}
use Rattle.word_program.specs.Accepted.{IsAccepted, IsOutputParam}
use Rattle.x86_instr.specs.declared.operand.Reg.{Reg}
use Rattle.x86_instr.specs.declared.operand.Reg.TheVariants.{Rsp}
use Rattle.x86_instr.specs.Frame.{frame_of, is_frame}
use Rattle.x86_instr.specs.Registers.{number_of}
use Rattle.terms.specs.declared.nodes.Node.{Node}
use Rattle.terms.specs.declared.nodes.NodeKind.TheVariants as kinds
use Rattle.terms.specs.declared.nodes.Form.{Form}
use Rattle.terms.specs.declared.nodes.Form.TheVariants as forms
use Rattle.terms.specs.Tables.{Prefix, node_at}
use Rattle.terms.specs.Rules.{const_node, normal_of}
use Rattle.term_store.specs.Interning.{Interned, made}
use Rattle.term_store.proofs.Prefixes.{prefix_length, prefix_trans, at_front}
use Rattle.term_store.proofs.Made.{interned_place, made_prefix}
use Rattle.term_store.proofs.Interned.{made_interned}
use Rattle.term_store.proofs.Places.{IsPlace}
use Rattle.program_nodes.specs.Terms.{term, plus, minus, sum}
use Rattle.symbolic_state.specs.Symbols.{Symbols, node_in, with_flags, with_node, with_touch}
use Rattle.symbolic_state.specs.Cells.{known}
use Rattle.symbolic_state.specs.Fitting.{HaveShapes}
use Rattle.symbolic_state.specs.Starts.{arrays_at_start, symbols_at_start}
use Rattle.symbolic_state.proofs.AtStart.{start_shape}
use Rattle.symbolic_values.specs.Steps.{Step}
use Rattle.op_order.specs.declared.slot.Slot.{Slot}
use Rattle.plain_lower.specs.Frame.{frame_bytes}
use Rattle.plain_lower.specs.Plain.{plain_lines}
use Rattle.plain_checks.proofs.Nodes.{table_of}
use Rattle.plain_checks.proofs.Between.{param_node}
use Rattle.plain_checks.proofs.FrameSteps.{SetsStack}
use Rattle.plain_checks.proofs.Addresses.{stack_taken}
use Rattle.plain_checks.proofs.SourceBase.{source_starts}
use Rattle.plain_checks.proofs.StartRegisters.{start_regs, start_long, start_stack}

-- ---- the size of the frame

-- how many slots the frame has
abbrev pub slots_of : Source → ℕ
slots_of program = length program.params + length (targets_of program.ops)

some_param : (params : List Param) → IsOutputParam params 0 → 1 ≤ length params
some_param [] h = absurd h
some_param (p ∷ ps) h = omega arith

pub record IsSize (n : ℕ) : Type 0 where
  pub some : 1 ≤ n
  pub few : n ≤ 4102

pub size_is : (program : Source) → IsAccepted program → IsSize (slots_of program)
size_is program accepted =
    let some = some_param program.params accepted.some_output in
    let params = accepted.params_limit in
    let values = accepted.values_limit in
    record { some = omega arith; few = omega arith }

fits_frame : (n : ℕ) → IsSize n → is_frame (8 * n) ≡ true
fits_frame n size =
    let some = size.some in
    let few = size.few in
    let whole : (8 * n) % 8 ≡ 0 = omega arith in
    let a : ((8 * n) % 8 == 0) ≡ true = ap (λ (k : ℕ). k == 0) whole in
    let b : nat_le 8 (8 * n) ≡ true = grind (arith, nat_tests) in
    let c : nat_le (8 * n) 32816 ≡ true = grind (arith, nat_tests) in
    ap (λ (t : Bool). t && (nat_le 8 (8 * n) && nat_le (8 * n) 32816)) a
    ∙ ap (λ (t : Bool). t && nat_le (8 * n) 32816) b ∙ c

-- the listing reserves the frame
pub frame_is : (program : Source) (slots : List Slot) → IsAccepted program
    → frame_of (plain_lines program slots) ≡ frame_bytes program
unfolding plain_lines
frame_is program slots accepted = ap (λ (b : Bool). if b then frame_bytes program else 0)
    (fits_frame (slots_of program) (size_is program accepted))

-- ---- the stack pointer

-- the node with this number is the stack pointer's start less so many bytes
pub record IsLowered (t : List Node) (bytes number : ℕ) : Type 0 where
  pub inside : number < length t
  pub kind : (node_at t number).kind ≡ kinds.Sum (2 ^ 64 - bytes) (term 1 4 ∷ [])

pub lowered_later : {t u : List Node} {bytes number : ℕ} → Prefix t u → IsLowered t bytes number
    → IsLowered u bytes number
lowered_later {t} {u} {bytes} {number} p l =
    let inside = l.inside in
    let longer = prefix_length p in
    record { inside = omega arith; kind = ap (λ (n : Node). n.kind) (at_front number p inside) ∙ l.kind }

-- a constant that is made stands at its number
pub const_there : (t : List Node) (word : ℕ)
    → IsPlace (made t (forms.Const word)).table (const_node word) (made t (forms.Const word)).number
unfolding normal_of
const_there t word = subst (λ (i : Interned). IsPlace i.table (const_node word) i.number)
    (sym (made_interned t (forms.Const word) (const_node word) refl)) (interned_place t (const_node word))

-- ---- the start

pub record IsStartState (program : Source) (y : Symbols) : Type 0 where
  pub regs : y.regs ≡ start_regs program
  pub arrays : y.arrays ≡ arrays_at_start (table_of program) program.params 0 program.params
  pub shapes : HaveShapes program.params y.arrays
  pub long : length y.frame ≡ slots_of program
  pub overlap : y.overlap ≡ program.overlap

pub start_state : (program : Source)
    → IsStartState program (symbols_at_start (table_of program) program (frame_bytes program))
unfolding symbols_at_start
start_state program =
    let whole : 8 * slots_of program / 8 ≡ slots_of program = omega arith in
    record {
      regs = refl;
      arrays = refl;
      shapes = (start_shape (table_of program) program (frame_bytes program)).arrays;
      long = length-replicate (8 * slots_of program / 8) None ∙ whole;
      overlap = refl;
    }

-- ---- behind the first lines of the entry

-- the frame is taken, and the first parameters are in their slots
pub record Begins (program : Source) (many : ℕ) (t : List Node) (y : Symbols) : Type 0 where
  pub more : Prefix (table_of program) t
  pub lowered : IsLowered t (frame_bytes program) (node_in y Rsp)
  pub sixteen : length y.regs ≡ 16
  pub regs : (r : Reg) → number_of r ≢ 4 → node_in y r ≡ slice_index (start_regs program) (number_of r)
  pub arrays : y.arrays ≡ arrays_at_start (table_of program) program.params 0 program.params
  pub shapes : HaveShapes program.params y.arrays
  pub long : length y.frame ≡ slots_of program
  pub overlap : y.overlap ≡ program.overlap
  pub saved : (param : ℕ) → param < many → known y.frame param ≡ Some (param_node program param)

-- the constant of the frame's bytes, and the stack pointer less that
abbrev bytes_made : Source → Interned
bytes_made program = made (table_of program) (forms.Const (frame_bytes program))

abbrev lowered_form : Source → Symbols → Form
lowered_form program y = sum (plus (node_in y Rsp) ∷ minus (bytes_made program).number ∷ [])

-- what the subtraction leaves
pub taken : (program : Source) → IsAccepted program → (y : Symbols) (step : Step) → IsStartState program y
    → (s : SetsStack step (bytes_made program).table (lowered_form program y) y)
    → Begins program 0 s.last (with_flags s.cf None s.zf
    (with_node Rsp (made (bytes_made program).table (lowered_form program y)).number (with_touch None y)))
taken program accepted y step is s =
    let bytes : ℕ = frame_bytes program in
    let size = size_is program accepted in
    let some = size.some in
    let few = size.few in
    let params = accepted.params_limit in
    let c = made (table_of program) (forms.Const bytes) in
    let longer : Prefix (table_of program) c.table = made_prefix (table_of program) (forms.Const bytes) in
    let at : IsPlace c.table (const_node bytes) c.number = const_there (table_of program) bytes in
    let form : ℕ → Form = λ d. sum (plus d ∷ minus c.number ∷ []) in
    let stack : node_in y Rsp ≡ 4 = ap (λ (rs : List ℕ). slice_index rs 4) is.regs ∙ start_stack program params in
    let low4 = stack_taken longer (source_starts program accepted 4 (omega arith)) c.number bytes at.here (omega arith)
    (omega arith) in
    let low : IsLowered (made c.table (form (node_in y Rsp))).table bytes (made c.table (form (node_in y Rsp))).number =
    subst (λ (d : ℕ). IsLowered (made c.table (form d)).table bytes (made c.table (form d)).number) (sym stack)
    (record { inside = low4.1; kind = ap (λ (node : Node). node.kind) low4.0 }) in
    let n : ℕ = (made c.table (form (node_in y Rsp))).number in
    let count : length y.regs ≡ 16 = ap length is.regs ∙ start_long program in
    record {
      more = prefix_trans longer (prefix_trans (made_prefix c.table (form (node_in y Rsp))) s.longer);
      lowered = subst (IsLowered s.last bytes) (sym (get_or-set_same y.regs 4 n 0 (omega arith)))
          (lowered_later s.longer low);
      sixteen = length-set y.regs 4 n ∙ count;
      regs = λ (r : Reg) (other : number_of r ≢ 4). get_or-set_other y.regs 4 (number_of r) n 0 other
          ∙ ap (λ (rs : List ℕ). slice_index rs (number_of r)) is.regs;
      arrays = is.arrays;
      shapes = is.shapes;
      long = is.long;
      overlap = is.overlap;
      saved = λ (param : ℕ) (h : param < 0). absurd (omega arith);
    }
