-- The entry of a plain listing, behind which the parameters are in their slots, and the exit.
use Rattle.std.proofs.Common.{◌≡◌, ◌≢◌, ℕ, zero, suc, ◌+◌, ◌*◌, ◌<◌, true, false, List}
use Rattle.std.proofs.Common.{[], ◌∷◌, ◌++◌, length, Option, Some, None, refl, sym, ap, subst, ◌∙◌, arith}
use Rattle.std.proofs.Common.{⊎_elim}
use Rattle.std.proofs.lemmas.Bool.{cases_eq}
use Rattle.std.proofs.lemmas.List.{get_or-set_same, get_or-set_other, length-set}
use Rattle.std.specs.Prelude.{slice_get, slice_set}
use Rattle.base.specs.Options.{◌>>=◌, pick}
use Rattle.word_program.specs.declared.parameter.Param.{Param}
use Rattle.word_program.specs.Program.{Source}
use Rattle.word_program.specs.Values.{is_input_array, targets_of}
use Rattle.word_program.specs.Accepted.{IsAccepted}
use Rattle.x86_instr.specs.declared.operand.Reg.{Reg}
use Rattle.x86_instr.specs.declared.operand.Reg.TheVariants.{Rsp}
use Rattle.x86_instr.specs.declared.instr.Instr.TheVariants as instrs
use Rattle.x86_instr.specs.declared.line.Line.{Line}
use Rattle.x86_instr.specs.Registers.{number_of}
use Rattle.terms.specs.declared.nodes.Node.{Node}
use Rattle.terms.specs.declared.nodes.Form.TheVariants as forms
use Rattle.terms.specs.Tables.{Prefix}
use Rattle.terms.specs.Rules.{const_node}
use Rattle.term_store.specs.Interning.{Interned, made}
use Rattle.term_store.proofs.Prefixes.{prefix_trans}
use Rattle.term_store.proofs.Made.{made_prefix}
use Rattle.term_store.proofs.Places.{IsPlace}
use Rattle.program_nodes.specs.Terms.{plus, sum}
use Rattle.symbolic_state.specs.Symbols.{Array, Symbols, node_in, with_flags, with_node, with_touch}
use Rattle.symbolic_state.specs.Cells.{address_form, known}
use Rattle.symbolic_state.specs.Starts.{symbols_at_start}
use Rattle.symbolic_values.specs.Steps.{Step}
use Rattle.equiv_validator.specs.Runs.{Ended, Stuck, run_from}
use Rattle.plain_lower.specs.Frame.{frame_bytes, param_reg, unowned, word_at}
use Rattle.plain_lower.specs.Plain.{entry, exit, saves_from}
use Rattle.plain_checks.proofs.Leading.{Leads, leads_on}
use Rattle.plain_checks.proofs.Nodes.{table_of}
use Rattle.plain_checks.proofs.Between.{Between, Standing, is_done, is_saved, param_node}
use Rattle.plain_checks.proofs.FrameSteps.{add_step, keep_step, sub_step, with_frame}
use Rattle.plain_checks.proofs.Addresses.{frame_named, stack_given}
use Rattle.plain_checks.proofs.SourceBase.{source_starts}
use Rattle.plain_checks.proofs.StartMemory.{start_input}
use Rattle.plain_checks.proofs.StartRegisters.{start_saved, start_param}
use Rattle.plain_checks.proofs.StartRegisters.{param_not_stack, saved_not_stack}
use Rattle.plain_checks.proofs.FrameTaken.{IsLowered, size_is, lowered_later, const_there, start_state, Begins, taken}

-- ---- the slots of the parameters

known_here : (words : List (Option ℕ)) (i n : ℕ) → i < length words → known (slice_set words i (Some n)) i ≡ Some n
known_here [] i n h = absurd (omega arith)
known_here (w ∷ words) zero n h = refl
known_here (w ∷ words) (suc i) n h = known_here words i n (omega arith)

known_there : (words : List (Option ℕ)) (i j n : ℕ) → j ≢ i → known (slice_set words i (Some n)) j ≡ known words j
known_there [] i j n other = refl
known_there (w ∷ words) zero zero n other = absurd (other refl)
known_there (w ∷ words) zero (suc j) n other = refl
known_there (w ∷ words) (suc i) zero n other = refl
known_there (w ∷ words) (suc i) (suc j) n other = known_there words i j n (λ e. other (ap suc e))

-- one parameter more
saved_more : (program : Source) → IsAccepted program → (k : ℕ) (t : List Node) (y : Symbols) → Begins program k t y
    → k < length program.params
    → Begins program (k + 1) (made t (address_form y (word_at Rsp k))).table
    (with_frame k (node_in y (param_reg k)) y)
saved_more program accepted k t y b h =
    let params = accepted.params_limit in
    let long = b.long in
    let p : Prefix t (made t (address_form y (word_at Rsp k))).table = made_prefix t (address_form y (word_at Rsp k)) in
    let n : ℕ = node_in y (param_reg k) in
    let node : n ≡ param_node program k = b.regs (param_reg k) (param_not_stack k (omega arith))
    ∙ start_param program params k h in
    record {
      more = prefix_trans b.more p;
      lowered = lowered_later p b.lowered;
      sixteen = b.sixteen;
      regs = b.regs;
      arrays = b.arrays;
      shapes = b.shapes;
      long = length-set y.frame k (Some n) ∙ b.long;
      overlap = b.overlap;
      saved = λ (param : ℕ) (w : param < k + 1). ⊎_elim
          (λ (e : param ≡ k). subst
          (λ (q : ℕ). known (slice_set y.frame k (Some n)) q ≡ Some (param_node program q)) (sym e)
          (known_here y.frame k n (omega arith) ∙ ap (λ (m : ℕ). Some m) node))
          (λ (other : param ≢ k). known_there y.frame k param n other ∙ b.saved param (less param w other))
          (cases_eq param k);
    }
  where
    less : (param : ℕ) → param < k + 1 → param ≢ k → param < k
    less param w other = grind (arith, w, other)

saves_lead : (program : Source) → IsAccepted program → (k : ℕ) (ps : List Param) (t : List Node) (y : Symbols)
    (rest : List Line) (Q : List Node → Symbols → Type 0) → k + length ps ≡ length program.params
    → Begins program k t y
    → ((u : List Node) (z : Symbols) → Begins program (length program.params) u z → Leads rest u z Q)
    → Leads (saves_from k ps ++ rest) t y Q
saves_lead program accepted k [] t y rest Q count b next =
    let same : k ≡ length program.params = omega arith in
    next t y (subst (λ (n : ℕ). Begins program n t y) same b)
saves_lead program accepted k (p ∷ ps) t y rest Q count b next =
    let size = size_is program accepted in
    let few = size.few in
    let long = b.long in
    let bytes : frame_bytes program ≡ 8 * length y.frame = omega arith in
    let named = frame_named b.more (source_starts program accepted 4 (omega arith)) y k
    (subst (λ (n : ℕ). IsLowered t n (node_in y Rsp)) bytes b.lowered).kind (omega arith) (omega arith) in
    leads_on refl (keep_step t y (param_reg k) k named)
    (saves_lead program accepted (k + 1) ps (made t (address_form y (word_at Rsp k))).table
    (with_frame k (node_in y (param_reg k)) y) rest Q (omega arith)
    (saved_more program accepted k t y b (omega arith)) next)

-- ---- the entry

between_begins : (program : Source) → IsAccepted program → (t : List Node) (y : Symbols)
    → Begins program (length program.params) t y → Between program [] t y
between_begins program accepted t y b = record {
  standing = record {
    more = b.more;
    sixteen = b.sixteen;
    stack_in = b.lowered.inside;
    stack = b.lowered.kind;
    saved = λ (r : Reg) (e : is_saved r ≡ true). b.regs r (saved_not_stack r e)
        ∙ start_saved program accepted.params_limit r e;
    shapes = b.shapes;
    frame_long = b.long;
    overlap = b.overlap;
    params = b.saved;
  };
  inputs = λ (param word : ℕ) (p : Param) (there : slice_get program.params param ≡ Some p)
      (role : is_input_array p.role ≡ true) (w : word < length p.bounds).
      ap (λ (arrays : List Array). slice_get arrays param >>= λ array. known array.words word) b.arrays
      ∙ start_input (table_of program) program.params param word p there role w;
  cells = λ (value : ℕ) (w : value < length (targets_of program.ops)) (e : is_done program [] value ≡ true).
      absurd (none_done e);
}
  where
    none_done : false ≡ true → ⊥
    none_done e = cc

-- the entry leads to where its parameters are in their slots, and no operation is carried out
pub entry_leads : (program : Source) → IsAccepted program → (rest : List Line) (Q : List Node → Symbols → Type 0)
    → ((u : List Node) (z : Symbols) → Between program [] u z → Leads rest u z Q)
    → Leads (entry program ++ rest) (table_of program)
    (symbols_at_start (table_of program) program (frame_bytes program)) Q
entry_leads program accepted rest Q next =
    let size = size_is program accepted in
    let few = size.few in
    let bytes : ℕ = frame_bytes program in
    let y : Symbols = symbols_at_start (table_of program) program bytes in
    let s = sub_step (table_of program) y bytes (omega arith) in
    leads_on refl s.is
    (saves_lead program accepted 0 program.params s.last _ rest Q (omega arith)
    (taken program accepted y _ (start_state program) s)
    (λ (u : List Node) (z : Symbols) (b : Begins program (length program.params) u z).
    next u z (between_begins program accepted u z b)))

-- ---- the exit

-- the stack pointer has its start again, and all but it and the flags is as it was
pub record IsGivenBack (y last : Symbols) : Type 0 where
  pub stack : node_in last Rsp ≡ 4
  pub regs : (r : Reg) → number_of r ≢ 4 → node_in last r ≡ node_in y r
  pub arrays : last.arrays ≡ y.arrays
  pub frame : last.frame ≡ y.frame
  pub overlap : last.overlap ≡ y.overlap

-- the run of the exit ends so
pub record ExitEnds (program : Source) (number : ℕ) (t : List Node) (y : Symbols) : Type 0 where
  pub last : Symbols
  pub ends : (run_from number (exit program) t y).ending ≡ Ended last
  pub given : IsGivenBack y last

pub exit_ends : (program : Source) → IsAccepted program → (number : ℕ) (t : List Node) (y : Symbols)
    → Standing program t y → ExitEnds program number t y
exit_ends program accepted number t y standing =
    let size = size_is program accepted in
    let some = size.some in
    let few = size.few in
    let bytes : ℕ = frame_bytes program in
    let c = made t (forms.Const bytes) in
    let longer : Prefix t c.table = made_prefix t (forms.Const bytes) in
    let at : IsPlace c.table (const_node bytes) c.number = const_there t bytes in
    let s = add_step t y bytes (omega arith) in
    let lowered : IsLowered t bytes (node_in y Rsp) = record { inside = standing.stack_in; kind = standing.stack } in
    let back : made c.table (sum (plus (node_in y Rsp) ∷ plus c.number ∷ [])) ≡ record { table = c.table; number = 4 } =
    stack_given (prefix_trans standing.more longer) (source_starts program accepted 4 (omega arith)) (node_in y Rsp)
    c.number bytes (lowered_later longer lowered).kind at.here (omega arith) in
    let n : ℕ = (made c.table (sum (plus (node_in y Rsp) ∷ plus c.number ∷ []))).number in
    let count = standing.sixteen in
    record {
      last = with_flags s.cf None s.zf (with_node Rsp n (with_touch None y));
      ends = ap (λ (step : Step). (pick step.state (λ z. run_from (number + 1) (return ∷ []) step.table z)
          (record { table = step.table; ending = Stuck number })).ending) s.is;
      given = record {
        stack = get_or-set_same y.regs 4 n 0 (omega arith) ∙ ap (λ (i : Interned). i.number) back;
        regs = λ (r : Reg) (other : number_of r ≢ 4). get_or-set_other y.regs 4 (number_of r) n 0 other;
        arrays = refl;
        frame = refl;
        overlap = refl;
      };
    }
  where
    return : Line
    return = unowned instrs.Ret
