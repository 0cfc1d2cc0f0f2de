-- How the table of a step grows, and the shape of its state: in every table and from every state.
use Rattle.std.proofs.Common.{◌≡◌, ℕ, ◌+◌, ◌-◌, ◌%◌, ◌^◌, ◌≤◌, ◌==◌, Bool, true, false, List, [], ◌∷◌, length, Option}
use Rattle.std.proofs.Common.{Some, None, IfSome, if◌then◌else◌, option_map, refl, sym, ap, ◌∙◌, subst, arith}
use Rattle.std.specs.Int.{cast_unsigned, w64}
use Rattle.base.specs.Options.{◌>>=◌, pick}
use Rattle.word_program.specs.Program.{Source}
use Rattle.x86_instr.specs.declared.instr.Bin.{Bin}
use Rattle.x86_instr.specs.declared.instr.Bin.TheVariants.{Add, Adc, Sub, Sbb, And, Or, Xor, Cmp}
use Rattle.x86_instr.specs.declared.instr.Cond.{Cond}
use Rattle.x86_instr.specs.declared.instr.Instr.{Instr}
use Rattle.x86_instr.specs.declared.instr.Instr.TheVariants as instrs
use Rattle.x86_instr.specs.declared.instr.Un.{Un}
use Rattle.x86_instr.specs.declared.instr.Un.TheVariants.{Inc, Dec, Neg, Not}
use Rattle.x86_instr.specs.declared.operand.Mem.{Mem}
use Rattle.x86_instr.specs.declared.operand.Reg.{Reg}
use Rattle.x86_instr.specs.declared.operand.Reg.TheVariants.{Rax, Rdx}
use Rattle.x86_instr.specs.declared.operand.Rm.{Rm}
use Rattle.x86_instr.specs.declared.operand.Rm.TheVariants as rms
use Rattle.x86_instr.specs.declared.operand.Src.{Src}
use Rattle.x86_instr.specs.declared.operand.Src.TheVariants as srcs
use Rattle.terms.specs.declared.nodes.Node.{Node}
use Rattle.terms.specs.declared.nodes.Form.{Form}
use Rattle.terms.specs.declared.nodes.Form.TheVariants as forms
use Rattle.terms.specs.Tables.{Prefix, node_at}
use Rattle.terms.specs.Rules.{constant_at}
use Rattle.term_store.specs.Interning.{made}
use Rattle.term_store.proofs.Made.{made_most, made_prefix}
use Rattle.term_store.proofs.Prefixes.{prefix_refl, prefix_trans}
use Rattle.symbolic_state.specs.declared.touch.Touch.{Touch}
use Rattle.symbolic_state.specs.Symbols.{Symbols, node_in, with_cf, with_node, with_of, with_touch}
use Rattle.symbolic_state.specs.Cells.{Cell, address_form, cell_named, stored, touch_of}
use Rattle.symbolic_state.specs.Fetching.{Fetched, Word}
use Rattle.symbolic_state.specs.Fetching.{fetched_cell, fetched_const}
use Rattle.symbolic_state.specs.Symbols.{condition_node}
use Rattle.symbolic_state.specs.Fetching.{rm_fetched}
use Rattle.symbolic_state.specs.Fetching.{src_fetched}
use Rattle.symbolic_values.specs.Steps.{Step, adcx_step, adox_step, arithmetic, bin_step, byte_of}
use Rattle.symbolic_values.specs.Steps.{chained, clc_step, cmov_step}
use Rattle.symbolic_values.specs.Steps.{goes, imul_step, is_negated, logic, movzx_step, mul_step, mulx_step}
use Rattle.symbolic_values.specs.Steps.{neg_step, on_count, on_flag, on_source, result_and_overflow, result_and_zero}
use Rattle.symbolic_values.specs.Steps.{result_only, select_by, set_by, set_step, shifted_right}
use Rattle.symbolic_values.specs.Steps.{sum_of_two}
use Rattle.symbolic_values.specs.Steps.{step_from, step_of, store_step, stuck, un_step}
use Rattle.symbolic_values.specs.Sourced.{step_on}
use Rattle.program_nodes.specs.Terms.{minus, plus, sum, term}
use Rattle.symbolic_state.specs.Fitting.{HasShape, HaveShapes}
use Rattle.symbolic_state.proofs.Stored.{is_stored}
use Rattle.symbolic_values.proofs.RowResults.{SameMemory, same_written}

-- ---- tables

-- the longer table goes on from the first one by at most n nodes
pub record Adds (n : ℕ) (t u : List Node) : Type 0 where
  pub prefix : Prefix t u
  pub most : length u ≤ length t + n

adds_none : (n : ℕ) (t : List Node) → Adds n t t
adds_none n t = record { prefix = prefix_refl t; most = omega arith }

adds_one : (t : List Node) (f : Form) → Adds 1 t (made t f).table
adds_one t f = record { prefix = made_prefix t f; most = made_most t f }

adds_on : (m n k : ℕ) (t u w : List Node) → m + n ≤ k → Adds m t u → Adds n u w → Adds k t w
adds_on m n k t u w h a b = let few = a.most in let more = b.most in record {
  prefix = prefix_trans a.prefix b.prefix;
  most = omega arith;
}

-- ---- steps

-- the table grows by at most n nodes, and a state that is left has the shape of the state before it
pub record Extends (n : ℕ) (t : List Node) (y : Symbols) (o : Step) : Type 0 where
  pub adds : Adds n t o.table
  pub shape : (program : Source) (frame : ℕ) → HasShape program frame y → IfSome o.state (HasShape program frame)

same_shape : (y z : Symbols) (program : Source) (frame : ℕ) → HasShape program frame y → SameMemory y z
    → HasShape program frame z
same_shape y z program frame shape same = record {
  arrays = subst (HaveShapes program.params) (sym same.arrays) shape.arrays;
  frame_words = ap (λ (words : List (Option ℕ)). length words) same.frame ∙ shape.frame_words;
  overlap = same.overlap ∙ shape.overlap;
}

pub touch_shape : (y : Symbols) (touch : Option Touch) (program : Source) (frame : ℕ) → HasShape program frame y
    → HasShape program frame (with_touch touch y)
touch_shape y touch program frame shape = record {
  arrays = shape.arrays;
  frame_words = shape.frame_words;
  overlap = shape.overlap;
}

extends_stuck : (n : ℕ) (t : List Node) (y : Symbols) → Extends n t y (stuck t)
extends_stuck n t y = record { adds = adds_none n t; shape = λ program frame shape. tt }

-- a step that leaves the memory as it was
extends_goes : (n : ℕ) (t u : List Node) (y z : Symbols) → Adds n t u → SameMemory y z → Extends n t y (goes u z)
extends_goes n t u y z adds same = record {
  adds = adds;
  shape = λ program frame shape. same_shape y z program frame shape same;
}

module _ (t : List Node) (y : Symbols) where
  extends_flag : (flag : Option ℕ) (rest : ℕ → List Node → Symbols → Step)
      → ((node : ℕ) → Extends 3 t y (rest node t y)) → Extends 3 t y (on_flag flag rest t y)
  extends_flag None rest f = extends_stuck 3 t y
  extends_flag (Some node) rest f = f node

  -- ---- results

  pub extends_only : (dst : Reg) (f : Form) → Extends 3 t y (result_only dst f t y)
  unfolding result_only
  extends_only dst f = extends_goes 3 t _ y _ (adds_on 1 0 3 t _ _ (omega arith) (adds_one t f) (adds_none 0 _))
      (same_written y (Some dst) (made t f).number y.cf y.of y.zf)

  adds_three : (f g : Form) → let r = made t f in let c = made r.table g in
      Adds 3 t (made c.table (forms.Zero r.number)).table
  adds_three f g = let r = made t f in let c = made r.table g in
      adds_on 1 2 3 t r.table _ (omega arith) (adds_one t f)
      (adds_on 1 1 2 r.table c.table _ (omega arith) (adds_one r.table g) (adds_one c.table (forms.Zero r.number)))

  pub extends_arithmetic : (dst : Option Reg) (f g : Form) → Extends 3 t y (arithmetic dst f g t y)
  unfolding arithmetic
  extends_arithmetic dst f g = extends_goes 3 t _ y _ (adds_three f g) (same_written y dst (made t f).number _ _ _)

  extends_logic : (dst : Option Reg) (f : Form) → Extends 3 t y (logic dst f t y)
  unfolding logic
  extends_logic dst f = extends_goes 3 t _ y _ (adds_three f (forms.Const 0))
      (same_written y dst (made t f).number _ _ _)

  pub extends_bin : (op : Bin) (dst : Reg) (d s : ℕ) → Extends 3 t y (bin_step op dst d s t y)
  extends_bin Add dst d s = extends_arithmetic (Some dst) (sum (plus d ∷ plus s ∷ [])) (forms.Carry (d ∷ s ∷ []))
  extends_bin Adc dst d s = extends_flag y.cf
      (λ c. arithmetic (Some dst) (sum (plus d ∷ plus s ∷ plus c ∷ [])) (forms.Carry (d ∷ s ∷ c ∷ [])))
      (λ c. extends_arithmetic (Some dst) (sum (plus d ∷ plus s ∷ plus c ∷ [])) (forms.Carry (d ∷ s ∷ c ∷ [])))
  extends_bin Sub dst d s = extends_arithmetic (Some dst) (sum (plus d ∷ minus s ∷ [])) (forms.Borrow d (s ∷ []))
  extends_bin Sbb dst d s = extends_flag y.cf
      (λ c. arithmetic (Some dst) (sum (plus d ∷ minus s ∷ minus c ∷ [])) (forms.Borrow d (s ∷ c ∷ [])))
      (λ c. extends_arithmetic (Some dst) (sum (plus d ∷ minus s ∷ minus c ∷ [])) (forms.Borrow d (s ∷ c ∷ [])))
  extends_bin And dst d s = extends_logic (Some dst) (forms.And d s)
  extends_bin Or dst d s = extends_logic (Some dst) (forms.Or d s)
  extends_bin Xor dst d s = extends_logic (Some dst) (forms.Xor d s)
  extends_bin Cmp dst d s = extends_arithmetic None (sum (plus d ∷ minus s ∷ [])) (forms.Borrow d (s ∷ []))

  -- ---- chains, products and shifts

  adds_two : (f g : Form) → Adds 3 t (made (made t f).table g).table
  adds_two f g = let r = made t f in adds_on 1 1 3 t r.table _ (omega arith) (adds_one t f) (adds_one r.table g)

  pub extends_zero : (cf : Option ℕ) (dst : Reg) (f : Form) → Extends 3 t y (result_and_zero cf dst f t y)
  unfolding result_and_zero
  extends_zero cf dst f = let r = made t f in extends_goes 3 t _ y _ (adds_two f (forms.Zero r.number))
      (same_written y (Some dst) r.number _ _ _)

  pub extends_bit : (dst : Reg) (f g : Form) → Extends 3 t y (result_and_overflow dst f g t y)
  unfolding result_and_overflow
  extends_bit dst f g = extends_goes 3 t _ y _ (adds_three f g) (same_written y (Some dst) (made t f).number _ _ _)

  pub extends_carry : (dst : Reg) (f g : Form) → Extends 3 t y (chained with_cf dst f g t y)
  unfolding chained
  extends_carry dst f g = extends_goes 3 t _ y _ (adds_two f g) (same_written y (Some dst) (made t f).number _ _ _)

  pub extends_overflow : (dst : Reg) (f g : Form) → Extends 3 t y (chained with_of dst f g t y)
  unfolding chained
  extends_overflow dst f g = extends_goes 3 t _ y _ (adds_two f g) (same_written y (Some dst) (made t f).number _ _ _)

  extends_adcx : (dst : Reg) (d s : ℕ) → Extends 3 t y (adcx_step dst d s t y)
  extends_adcx dst d s = extends_flag y.cf
      (λ c. chained with_cf dst (sum (plus d ∷ plus s ∷ plus c ∷ [])) (forms.Carry (d ∷ s ∷ c ∷ [])))
      (λ c. extends_carry dst (sum (plus d ∷ plus s ∷ plus c ∷ [])) (forms.Carry (d ∷ s ∷ c ∷ [])))

  extends_adox : (dst : Reg) (d s : ℕ) → Extends 3 t y (adox_step dst d s t y)
  extends_adox dst d s = extends_flag y.of
      (λ c. chained with_of dst (sum (plus d ∷ plus s ∷ plus c ∷ [])) (forms.Carry (d ∷ s ∷ c ∷ [])))
      (λ c. extends_overflow dst (sum (plus d ∷ plus s ∷ plus c ∷ [])) (forms.Carry (d ∷ s ∷ c ∷ [])))

  extends_mulx : (hi lo : Reg) (d s : ℕ) → Extends 3 t y (mulx_step hi lo d s t y)
  unfolding mulx_step
  extends_mulx hi lo d s = extends_goes 3 t _ y _ (adds_two (forms.MulLo d s) (forms.MulHi d s))
      (record { arrays = refl; frame = refl; overlap = refl; touch = refl })

  extends_mul : (d s : ℕ) → Extends 3 t y (mul_step d s t y)
  unfolding mul_step
  extends_mul d s = extends_goes 3 t _ y _ (adds_two (forms.MulLo d s) (forms.MulHi d s))
      (record { arrays = refl; frame = refl; overlap = refl; touch = refl })

  extends_imul : (dst : Reg) (d s : ℕ) → Extends 3 t y (imul_step dst d s t y)
  unfolding imul_step
  extends_imul dst d s = let f = forms.MulLo d s in
      extends_goes 3 t _ y _ (adds_on 1 0 3 t _ _ (omega arith) (adds_one t f) (adds_none 0 _))
      (same_written y (Some dst) (made t f).number _ _ _)

  extends_count : (count : ℕ) (rest : ℕ → List Node → Symbols → Step)
      → ((k : ℕ) → Extends 3 t y (rest k t y)) → Extends 3 t y (on_count count rest t y)
  extends_count count rest f = by_constant (constant_at t count) where
    by_constant : (o : Option ℕ) → Extends 3 t y (pick o (λ k. rest (k % 64) t y) (stuck t))
    by_constant None = extends_stuck 3 t y
    by_constant (Some k) = f (k % 64)

  moved : (dst : Reg) (n : ℕ) → Extends 3 t y (goes t (with_node dst n y))
  moved dst n = extends_goes 3 t t y _ (adds_none 3 t) (same_written y (Some dst) n y.cf y.of y.zf)

  extends_right : (dst : Reg) (s k : ℕ) → Extends 3 t y (shifted_right dst s k t y)
  unfolding shifted_right
  extends_right dst s k = by_test (k == 0) where
    by_test : (b : Bool)
        → Extends 3 t y (if b then goes t (with_node dst s y) else result_only dst (forms.Shr s k) t y)
    by_test true = moved dst s
    by_test false = extends_only dst (forms.Shr s k)

  -- ---- conditions and bytes

  extends_cmov : (cond : Cond) (dst : Reg) (d s : ℕ) → Extends 3 t y (cmov_step cond dst d s t y)
  extends_cmov cond dst d s = extends_flag (condition_node y cond)
      (λ flag. result_only dst (select_by (is_negated cond) flag d s))
      (λ flag. extends_only dst (select_by (is_negated cond) flag d s))

  -- the step on a source's node
  pub extends_on : (i : Instr) (before : Symbols) (s : ℕ) → Extends 3 t y (step_on i before s t y)
  extends_on (instrs.Mov dst src) before s = moved dst s
  extends_on (instrs.Adcx dst src) before s = extends_adcx dst (node_in before dst) s
  extends_on (instrs.Adox dst src) before s = extends_adox dst (node_in before dst) s
  extends_on (instrs.Mulx hi lo src) before s = extends_mulx hi lo (node_in before Rdx) s
  extends_on (instrs.Mul src) before s = extends_mul (node_in before Rax) s
  extends_on (instrs.Imul dst src) before s = extends_imul dst (node_in before dst) s
  extends_on (instrs.Shlx dst src count) before s = extends_count (node_in before count)
      (λ k. result_only dst (sum (term (2 ^ k) s ∷ []))) (λ k. extends_only dst (sum (term (2 ^ k) s ∷ [])))
  extends_on (instrs.Shrx dst src count) before s = extends_count (node_in before count) (shifted_right dst s)
      (extends_right dst s)
  extends_on (instrs.Cmov cond dst src) before s = extends_cmov cond dst (node_in before dst) s
  extends_on i before s = extends_stuck 3 t y

  -- ---- behind what was made before

  extends_behind : (m n k : ℕ) (u : List Node) (z : Symbols) (o : Step) → m + n ≤ k → Adds m t u
      → ((program : Source) (frame : ℕ) → HasShape program frame y → HasShape program frame z) → Extends n u z o
      → Extends k t y o
  extends_behind m n k u z o h adds same rest = record {
    adds = adds_on m n k t u o.table h adds rest.adds;
    shape = λ program frame shape. rest.shape program frame (same program frame shape);
  }

  behind_source : (u : List Node) (o : Option Word) (rest : ℕ → List Node → Symbols → Step) → Adds 1 t u
      → ((w : Word) → Extends 3 u (with_touch w.touch y) (rest w.node u (with_touch w.touch y)))
      → Extends 16 t y (on_source (record { table = u; word = o }) y rest)
  behind_source u None rest adds f =
      record { adds = adds_on 1 0 16 t u u (omega arith) adds (adds_none 0 u); shape = λ program frame shape. tt }
  behind_source u (Some w) rest adds f =
      extends_behind 1 3 16 u (with_touch w.touch y) _ (omega arith) adds (touch_shape y w.touch) (f w)

  extends_source : (source : Fetched) (rest : ℕ → List Node → Symbols → Step) → Adds 1 t source.table
      → ((w : Word) → Extends 3 source.table (with_touch w.touch y) (rest w.node source.table (with_touch w.touch y)))
      → Extends 16 t y (on_source source y rest)
  extends_source source rest adds f = behind_source source.table source.word rest adds f

  -- ---- sources

  cell_adds : (mem : Mem) → Adds 1 t (fetched_cell t y mem).table
  unfolding fetched_cell
  cell_adds mem = adds_one t (address_form y mem)

  const_adds : (n : ℕ) → Adds 1 t (fetched_const t n).table
  unfolding fetched_const
  const_adds n = adds_one t (forms.Const (n % 2 ^ 64))

  rm_adds : (src : Rm) → Adds 1 t (rm_fetched t y src).table
  rm_adds (rms.Reg r) = adds_none 1 t
  rm_adds (rms.Mem mem) = cell_adds mem

  src_adds : (src : Src) → Adds 1 t (src_fetched t y src).table
  src_adds (srcs.Reg r) = adds_none 1 t
  src_adds (srcs.Mem mem) = cell_adds mem
  src_adds (srcs.Imm n) = const_adds (cast_unsigned w64 n)

-- ---- the other rows

neg_extends : (t : List Node) (y : Symbols) (dst : Reg) (d : ℕ) → Extends 4 t y (neg_step dst d t y)
unfolding neg_step
neg_extends t y dst d = let nought = made t (forms.Const 0) in
    extends_behind t y 1 3 4 nought.table y _ (omega arith) (adds_one t (forms.Const 0)) (λ program frame shape. shape)
    (extends_arithmetic nought.table y (Some dst) (sum (minus d ∷ [])) (forms.Borrow nought.number (d ∷ [])))

more : (t : List Node) (y : Symbols) (n : ℕ) (o : Step) → n ≤ 16 → Extends n t y o → Extends 16 t y o
more t y n o h e = extends_behind t y 0 n 16 t y o (omega arith) (adds_none 0 t) (λ program frame shape. shape) e

un_extends : (t : List Node) (y : Symbols) (op : Un) (dst : Reg) (d : ℕ) → Extends 16 t y (un_step op dst d t y)
un_extends t y Inc dst d = more t y 3 _ (omega arith)
    (extends_bit t y dst (forms.Lin 1 (plus d ∷ [])) (forms.Lin (2 ^ 63 + 2) (plus d ∷ [])))
un_extends t y Dec dst d = more t y 3 _ (omega arith) (extends_zero t y y.cf dst (forms.Lin (2 ^ 64 - 1) (plus d ∷ [])))
un_extends t y Neg dst d = more t y 4 _ (omega arith) (neg_extends t y dst d)
un_extends t y Not dst d = more t y 3 _ (omega arith) (extends_only t y dst (forms.Lin (2 ^ 64 - 1) (minus d ∷ [])))

clc_extends : (t : List Node) (y : Symbols) → Extends 1 t y (clc_step t y)
unfolding clc_step
clc_extends t y = extends_goes 1 t _ y _ (adds_one t (forms.Const 0))
    (same_written y None 0 (Some (made t (forms.Const 0)).number) y.of y.zf)

-- a state with a node stored has the shape of the state before it
module _ (y : Symbols) (node : ℕ) (program : Source) (frame : ℕ) (shape : HasShape program frame y) where
  stored_shape : (cell : Cell) (o : Option Symbols) → stored cell.area cell.word node y ≡ o
      → IfSome (option_map (with_touch (Some (touch_of true y cell))) o) (HasShape program frame)
  stored_shape cell None e = tt
  stored_shape cell (Some z) e = touch_shape z (Some (touch_of true y cell)) program frame
      ((is_stored y cell.area cell.word node z e).shape program frame shape)

  named_shape : (o : Option Cell) → IfSome (o >>= λ cell. option_map (with_touch (Some (touch_of true y cell)))
      (stored cell.area cell.word node y)) (HasShape program frame)
  named_shape None = tt
  named_shape (Some cell) = stored_shape cell (stored cell.area cell.word node y) refl

store_extends : (t : List Node) (y : Symbols) (mem : Mem) (node : ℕ) → Extends 1 t y (store_step t y mem node)
unfolding store_step
store_extends t y mem node = let address = made t (address_form y mem) in record {
  adds = adds_one t (address_form y mem);
  shape = λ program frame shape. named_shape y node program frame shape (cell_named address.table y address.number);
}

pub two_extends : (t : List Node) (y : Symbols) (dst : Reg) (f g : Form) → Extends 16 t y (sum_of_two dst f g t y)
unfolding sum_of_two
two_extends t y dst f g =
    let a = made t f in
    let b = made a.table g in
    extends_behind t y 3 3 16 b.table y _ (omega arith) (adds_two t y f g) (λ program frame shape. shape)
    (extends_zero b.table y None dst (sum (plus a.number ∷ plus b.number ∷ [])))

set_by_extends : (t : List Node) (y : Symbols) (negated : Bool) (dst : Reg) (d flag : ℕ)
    → Extends 16 t y (set_by negated dst d flag t y)
unfolding set_by
set_by_extends t y false dst d flag = more t y 3 _ (omega arith) (extends_only t y dst (forms.SetB d flag))
set_by_extends t y true dst d flag =
    let clear = made t (forms.Lin 1 (minus flag ∷ [])) in
    extends_behind t y 1 3 16 clear.table y _ (omega arith) (adds_one t (forms.Lin 1 (minus flag ∷ [])))
    (λ program frame shape. shape) (extends_only clear.table y dst (forms.SetB d clear.number))

set_extends : (t : List Node) (y : Symbols) (cond : Cond) (dst : Reg) (d : ℕ) → Extends 16 t y (set_step cond dst d t y)
set_extends t y cond dst d = by_flag (condition_node y cond) where
  by_flag : (flag : Option ℕ) → Extends 16 t y (on_flag flag (set_by (is_negated cond) dst d) t y)
  by_flag None = extends_stuck 16 t y
  by_flag (Some node) = set_by_extends t y (is_negated cond) dst d node

movzx_extends : (t : List Node) (y : Symbols) (dst : Reg) (s : ℕ) → Extends 16 t y (movzx_step dst s t y)
unfolding movzx_step
movzx_extends t y dst s = by_byte (byte_of t (node_at t s).kind) where
  by_byte : (o : Option ℕ) → Extends 16 t y (pick o (λ b. goes t (with_node dst b y))
      (let mask = made t (forms.Const 255) in result_only dst (forms.And s mask.number) mask.table y))
  by_byte None = let mask = made t (forms.Const 255) in
      extends_behind t y 1 3 16 mask.table y _ (omega arith) (adds_one t (forms.Const 255))
      (λ program frame shape. shape) (extends_only mask.table y dst (forms.And s mask.number))
  by_byte (Some b) = more t y 3 _ (omega arith) (moved t y dst b)

-- a step with a source in a register or the memory
sourced : (t : List Node) (y : Symbols) (i : Instr) (src : Rm)
    → Extends 16 t y (on_source (rm_fetched t y src) y (step_on i y))
sourced t y i src = extends_source t y (rm_fetched t y src) (step_on i y) (rm_adds t y src)
    (λ w. extends_on _ (with_touch w.touch y) i y w.node)

-- ---- all steps

from_extends : (t : List Node) (y : Symbols) (i : Instr) → Extends 16 t y (step_from i t y)
from_extends t y (instrs.Mov dst src) = sourced t y (instrs.Mov dst src) src
from_extends t y (instrs.MovImm dst imm) =
    extends_source t y (fetched_const t imm) (λ n u z. goes u (with_node dst n z)) (const_adds t y imm)
    (λ w. moved _ (with_touch w.touch y) dst w.node)
from_extends t y (instrs.Store mem src) = more t y 1 _ (omega arith) (store_extends t y mem (node_in y src))
from_extends t y (instrs.Lea dst mem) = more t y 3 _ (omega arith) (extends_only t y dst (address_form y mem))
from_extends t y (instrs.Bin op dst src) =
    extends_source t y (src_fetched t y src) (bin_step op dst (node_in y dst)) (src_adds t y src)
    (λ w. extends_bin _ (with_touch w.touch y) op dst (node_in y dst) w.node)
from_extends t y (instrs.Test a b) =
    more t y 3 _ (omega arith) (extends_logic t y None (forms.And (node_in y a) (node_in y b)))
from_extends t y (instrs.Un op dst) = un_extends t y op dst (node_in y dst)
from_extends t y (instrs.Adcx dst src) = sourced t y (instrs.Adcx dst src) src
from_extends t y (instrs.Adox dst src) = sourced t y (instrs.Adox dst src) src
from_extends t y (instrs.Mulx hi lo src) = sourced t y (instrs.Mulx hi lo src) src
from_extends t y (instrs.Mul src) = sourced t y (instrs.Mul src) src
from_extends t y (instrs.Imul dst src) = sourced t y (instrs.Imul dst src) src
from_extends t y (instrs.Shl dst by) =
    more t y 3 _ (omega arith) (extends_zero t y None dst (sum (term (2 ^ by) (node_in y dst) ∷ [])))
from_extends t y (instrs.Shr dst by) =
    more t y 3 _ (omega arith) (extends_zero t y None dst (forms.Shr (node_in y dst) by))
from_extends t y (instrs.Shrd dst src by) = two_extends t y dst (forms.Shr (node_in y dst) by)
    (sum (term (2 ^ (64 - by)) (node_in y src) ∷ []))
from_extends t y (instrs.Shlx dst src count) = sourced t y (instrs.Shlx dst src count) src
from_extends t y (instrs.Shrx dst src count) = sourced t y (instrs.Shrx dst src count) src
from_extends t y (instrs.Set cond dst) = set_extends t y cond dst (node_in y dst)
from_extends t y (instrs.Movzx dst src) = movzx_extends t y dst (node_in y src)
from_extends t y (instrs.Cmov cond dst src) = sourced t y (instrs.Cmov cond dst src) src
from_extends t y instrs.Clc = more t y 1 _ (omega arith) (clc_extends t y)
from_extends t y instrs.Ret = extends_goes 16 t t y y (adds_none 16 t) (same_written y None 0 y.cf y.of y.zf)

step_extends : (i : Instr) (t : List Node) (y : Symbols) → Extends 16 t (with_touch None y) (step_of i t y)
unfolding step_of
step_extends i t y = from_extends t (with_touch None y) i

pub step_prefix : (i : Instr) (t : List Node) (y : Symbols) → Prefix t (step_of i t y).table
step_prefix i t y = (step_extends i t y).adds.prefix

pub step_shape : (program : Source) (frame : ℕ) (i : Instr) (t : List Node) (y z : Symbols) → HasShape program frame y
    → (step_of i t y).state ≡ Some z → HasShape program frame z
step_shape program frame i t y z shape e = subst (λ o. IfSome o (HasShape program frame)) e
    ((step_extends i t y).shape program frame (touch_shape y None program frame shape))
