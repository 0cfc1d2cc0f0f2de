-- The steps of entry and exit: a constant taken from the stack pointer or added to it, and a register into the frame.
use Rattle.std.proofs.Common.{◌≡◌, ℕ, ◌^◌, ◌%◌, ◌<◌, List, [], ◌∷◌, Option, Some, None, refl, sym, ap}
use Rattle.std.proofs.Common.{subst, true, arith}
use Rattle.std.specs.Prelude.{pos, slice_set, option_map}
use Rattle.base.specs.Options.{◌>>=◌}
use Rattle.x86_instr.specs.declared.operand.Reg.{Reg}
use Rattle.x86_instr.specs.declared.operand.Reg.TheVariants.{Rsp}
use Rattle.x86_instr.specs.declared.operand.Src.TheVariants as srcs
use Rattle.x86_instr.specs.declared.instr.Bin.TheVariants.{Add, Sub}
use Rattle.x86_instr.specs.declared.instr.Instr.TheVariants as instrs
use Rattle.x86_meaning.specs.Start.{Frame}
use Rattle.terms.specs.declared.nodes.Node.{Node}
use Rattle.terms.specs.declared.nodes.Form.{Form}
use Rattle.terms.specs.declared.nodes.Form.TheVariants as forms
use Rattle.terms.specs.Tables.{Prefix}
use Rattle.term_store.specs.Interning.{made}
use Rattle.term_store.proofs.Prefixes.{prefix_trans}
use Rattle.term_store.proofs.Made.{made_prefix}
use Rattle.program_nodes.specs.Terms.{plus, minus, sum}
use Rattle.symbolic_state.specs.Symbols.{Symbols, node_in, with_node, with_flags, with_touch}
use Rattle.symbolic_state.specs.Cells.{Cell, address_form, cell_named, stored, touch_of}
use Rattle.symbolic_state.specs.Fetching.{fetched_const}
use Rattle.symbolic_values.specs.Steps.{Step, arithmetic, goes, step_of, store_step}
use Rattle.plain_lower.specs.Frame.{word_at}

-- ---- the stack pointer

-- a step that sets the stack pointer to what it makes of this form, and beside it flags
pub record SetsStack (step : Step) (t : List Node) (form : Form) (y : Symbols) : Type 0 where
  pub cf : Option ℕ
  pub zf : Option ℕ
  pub last : List Node
  pub longer : Prefix (made t form).table last
  pub is : step ≡ goes last (with_flags cf None zf (with_node Rsp (made t form).number (with_touch None y)))

arithmetic_sets : (result carry : Form) (t : List Node) (y : Symbols)
    → SetsStack (arithmetic (Some Rsp) result carry t (with_touch None y)) t result y
unfolding arithmetic
arithmetic_sets result carry t y =
    let r = made t result in
    let c = made r.table carry in
    let z = made c.table (forms.Zero r.number) in
    record {
      cf = Some c.number;
      zf = Some z.number;
      last = z.table;
      longer = prefix_trans (made_prefix r.table carry) (made_prefix c.table (forms.Zero r.number));
      is = refl;
    }

-- `sub rsp, F`
pub sub_step : (t : List Node) (y : Symbols) (bytes : ℕ) → bytes < 2 ^ 64
    → SetsStack (step_of (instrs.Bin Sub Rsp (srcs.Imm (pos bytes))) t y) (made t (forms.Const bytes)).table
    (sum (plus (node_in y Rsp) ∷ minus (made t (forms.Const bytes)).number ∷ [])) y
unfolding step_of fetched_const
sub_step t y bytes few =
    let same : bytes % 2 ^ 64 ≡ bytes = omega (arith, few) in
    let d : ℕ = node_in y Rsp in
    let step : ℕ → Step = λ n. let c = made t (forms.Const n) in arithmetic (Some Rsp)
    (sum (plus d ∷ minus c.number ∷ [])) (forms.Borrow d (c.number ∷ [])) c.table (with_touch None y) in
    let c = made t (forms.Const bytes) in
    subst (λ (s : Step). SetsStack s c.table (sum (plus d ∷ minus c.number ∷ [])) y) (sym (ap step same))
    (arithmetic_sets (sum (plus d ∷ minus c.number ∷ [])) (forms.Borrow d (c.number ∷ [])) c.table y)

-- `add rsp, F`
pub add_step : (t : List Node) (y : Symbols) (bytes : ℕ) → bytes < 2 ^ 64
    → SetsStack (step_of (instrs.Bin Add Rsp (srcs.Imm (pos bytes))) t y) (made t (forms.Const bytes)).table
    (sum (plus (node_in y Rsp) ∷ plus (made t (forms.Const bytes)).number ∷ [])) y
unfolding step_of fetched_const
add_step t y bytes few =
    let same : bytes % 2 ^ 64 ≡ bytes = omega (arith, few) in
    let d : ℕ = node_in y Rsp in
    let step : ℕ → Step = λ n. let c = made t (forms.Const n) in arithmetic (Some Rsp)
    (sum (plus d ∷ plus c.number ∷ [])) (forms.Carry (d ∷ c.number ∷ [])) c.table (with_touch None y) in
    let c = made t (forms.Const bytes) in
    subst (λ (s : Step). SetsStack s c.table (sum (plus d ∷ plus c.number ∷ [])) y) (sym (ap step same))
    (arithmetic_sets (sum (plus d ∷ plus c.number ∷ [])) (forms.Carry (d ∷ c.number ∷ [])) c.table y)

-- ---- the frame

-- the state with a node in a word of the frame
abbrev pub with_frame : ℕ → ℕ → Symbols → Symbols
with_frame word node y = record y {
  frame = slice_set y.frame word (Some node);
  touch = Some (touch_of true y (record { area = Frame; word = word }));
}

-- a register into a word of the frame
pub keep_step : (t : List Node) (y : Symbols) (r : Reg) (word : ℕ)
    → cell_named (made t (address_form y (word_at Rsp word))).table y
    (made t (address_form y (word_at Rsp word))).number ≡ Some (record { area = Frame; word = word })
    → step_of (instrs.Store (word_at Rsp word) r) t y
    ≡ goes (made t (address_form y (word_at Rsp word))).table (with_frame word (node_in y r) y)
unfolding step_of store_step cell_named
keep_step t y r word named =
    let u = (made t (address_form y (word_at Rsp word))).table in
    let x = with_touch None y in
    let rest : Option Cell → Step = λ o. record {
      table = u;
      state = o >>= λ c. option_map (with_touch (Some (touch_of true x c))) (stored c.area c.word (node_in y r) x);
    } in
    ap rest named
