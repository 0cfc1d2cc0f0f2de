-- The symbolic step of each instruction. What it needs is made in this order: the constant of an immediate, the
-- address, the result, the carry, overflow and zero flags. A step is stuck where an address names no cell, where an
-- unknown cell or flag is read, where what is stored to is no output and no word of the frame, and where the count of
-- `shlx` or `shrx` is no constant; then no more than the constant and the address are made. A flag that an instruction
-- writes is unknown after it, where its row gives it no node: so is the overflow flag after additions and subtractions.
use Rattle.std.specs.Prelude.{ℕ, ◌+◌, ◌-◌, ◌^◌, ◌%◌, ◌==◌, nat_le, Bool, true, false, if◌then◌else◌, List, [], ◌∷◌}
use Rattle.std.specs.Prelude.{Option, Some, None, option_map}
use Rattle.base.specs.Options.{◌>>=◌, guard, pick}
use Rattle.x86_instr.specs.declared.operand.Mem.{Mem}
use Rattle.x86_instr.specs.declared.operand.Reg.{Reg}
use Rattle.x86_instr.specs.declared.operand.Reg.TheVariants.{Rax, Rdx}
use Rattle.x86_instr.specs.declared.instr.Bin.{Bin}
use Rattle.x86_instr.specs.declared.instr.Bin.TheVariants.{Add, Adc, Sub, Sbb, And, Or, Xor, Cmp}
use Rattle.x86_instr.specs.declared.instr.Cond.{Cond}
use Rattle.x86_instr.specs.declared.instr.Cond.TheVariants as conds
use Rattle.x86_instr.specs.declared.instr.Un.{Un}
use Rattle.x86_instr.specs.declared.instr.Un.TheVariants.{Inc, Dec, Neg, Not}
use Rattle.x86_instr.specs.declared.instr.Instr.{Instr}
use Rattle.x86_instr.specs.declared.instr.Instr.TheVariants as instrs
use Rattle.terms.specs.declared.nodes.Node.{Node}
use Rattle.terms.specs.declared.nodes.NodeKind.{NodeKind}
use Rattle.terms.specs.declared.nodes.NodeKind.TheVariants as kinds
use Rattle.terms.specs.declared.nodes.Form.{Form}
use Rattle.terms.specs.declared.nodes.Form.TheVariants as forms
use Rattle.terms.specs.Tables.{node_at}
use Rattle.terms.specs.Rules.{constant_at}
use Rattle.term_store.specs.Interning.{made}
use Rattle.program_nodes.specs.Terms.{term, plus, minus, sum}
use Rattle.symbolic_state.specs.Symbols.{Symbols, condition_node, node_in, with_cf, with_of, with_node, with_flags}
use Rattle.symbolic_state.specs.Symbols.{with_touch, write}
use Rattle.symbolic_state.specs.Cells.{address_form, cell_named, stored, touch_of}
use Rattle.symbolic_state.specs.Fetching.{Fetched, fetched_const, rm_fetched, src_fetched}

-- ---- what a step leaves

-- the table, which is longer by what was made, and the state, or none where the step is stuck
pub record Step : Type 0 where
  pub table : List Node
  pub state : Option Symbols

abbrev pub stuck : List Node → Step
stuck table = record { table = table; state = None }

abbrev pub goes : List Node → Symbols → Step
goes table y = record { table = table; state = Some y }

-- ---- sources

-- the rest of a step, on its source's node
abbrev pub on_source : Fetched → Symbols → (ℕ → List Node → Symbols → Step) → Step
on_source source y rest =
    pick source.word (λ word. rest word.node source.table (with_touch word.touch y)) (stuck source.table)

-- ---- rows that several instructions share

-- a result, its carry, and whether it is 0
unfoldable pub arithmetic : Option Reg → Form → Form → List Node → Symbols → Step
arithmetic dst result carry table y =
    let r = made table result in
    let c = made r.table carry in
    let z = made c.table (forms.Zero r.number) in
    goes z.table (with_flags (Some c.number) None (Some z.number) (write dst r.number y))

-- a result by bits; the carry and the overflow flag are 0
unfoldable pub logic : Option Reg → Form → List Node → Symbols → Step
logic dst result table y =
    let r = made table result in
    let c = made r.table (forms.Const 0) in
    let z = made c.table (forms.Zero r.number) in
    goes z.table (with_flags (Some c.number) (Some c.number) (Some z.number) (write dst r.number y))

-- a result that changes no flag
unfoldable pub result_only : Reg → Form → List Node → Symbols → Step
result_only dst result table y = let r = made table result in goes r.table (with_node dst r.number y)

-- the step on a flag's node, where it is known
abbrev pub on_flag : Option ℕ → (ℕ → List Node → Symbols → Step) → List Node → Symbols → Step
on_flag flag rest table y = pick flag (λ node. rest node table y) (stuck table)

-- ADD, ADC, SUB, SBB, AND, OR, XOR, CMP: d is the destination's node, and s the source's
abbrev pub bin_step : Bin → Reg → ℕ → ℕ → List Node → Symbols → Step
bin_step Add dst d s table y = arithmetic (Some dst) (sum (plus d ∷ plus s ∷ [])) (forms.Carry (d ∷ s ∷ [])) table y
bin_step Adc dst d s table y = on_flag y.cf
    (λ c. arithmetic (Some dst) (sum (plus d ∷ plus s ∷ plus c ∷ [])) (forms.Carry (d ∷ s ∷ c ∷ []))) table y
bin_step Sub dst d s table y = arithmetic (Some dst) (sum (plus d ∷ minus s ∷ [])) (forms.Borrow d (s ∷ [])) table y
bin_step Sbb dst d s table y = on_flag y.cf
    (λ c. arithmetic (Some dst) (sum (plus d ∷ minus s ∷ minus c ∷ [])) (forms.Borrow d (s ∷ c ∷ []))) table y
bin_step And dst d s table y = logic (Some dst) (forms.And d s) table y
bin_step Or dst d s table y = logic (Some dst) (forms.Or d s) table y
bin_step Xor dst d s table y = logic (Some dst) (forms.Xor d s) table y
bin_step Cmp dst d s table y = arithmetic None (sum (plus d ∷ minus s ∷ [])) (forms.Borrow d (s ∷ [])) table y

-- ---- operations on one register

-- NEG: the constant from which the borrow is taken is made first
unfoldable pub neg_step : Reg → ℕ → List Node → Symbols → Step
neg_step dst d table y = let nought = made table (forms.Const 0) in
    arithmetic (Some dst) (sum (minus d ∷ [])) (forms.Borrow nought.number (d ∷ [])) nought.table y

-- the node, where it is known to be at most 1
abbrev pub bit_node : List Node → ℕ → Option ℕ
bit_node table n = guard (nat_le (node_at table n).high 1) n

-- a result; a node that is the overflow flag where it is known to be a bit; and whether the result is 0
unfoldable pub result_and_overflow : Reg → Form → Form → List Node → Symbols → Step
result_and_overflow dst result overflow table y =
    let r = made table result in
    let o = made r.table overflow in
    let z = made o.table (forms.Zero r.number) in
    goes z.table (with_flags y.cf (bit_node z.table o.number) (Some z.number) (with_node dst r.number y))

-- INC: it overflows where d is 2^63 - 1; so where d - (2^63 - 2) is a bit, it is the overflow flag
abbrev pub inc_step : Reg → ℕ → List Node → Symbols → Step
inc_step dst d table y =
    result_and_overflow dst (forms.Lin 1 (plus d ∷ [])) (forms.Lin (2 ^ 63 + 2) (plus d ∷ [])) table y

-- a result that leaves this carry flag and no overflow flag, and whether it is 0
unfoldable pub result_and_zero : Option ℕ → Reg → Form → List Node → Symbols → Step
result_and_zero cf dst result table y =
    let r = made table result in
    let z = made r.table (forms.Zero r.number) in
    goes z.table (with_flags cf None (Some z.number) (with_node dst r.number y))

-- INC, DEC, NEG and NOT
abbrev pub un_step : Un → Reg → ℕ → List Node → Symbols → Step
un_step Inc dst d table y = inc_step dst d table y
un_step Dec dst d table y = result_and_zero y.cf dst (forms.Lin (2 ^ 64 - 1) (plus d ∷ [])) table y
un_step Neg dst d table y = neg_step dst d table y
un_step Not dst d table y = result_only dst (forms.Lin (2 ^ 64 - 1) (minus d ∷ [])) table y

-- ---- two carry chains

-- a sum and its carry, which goes to one flag alone
unfoldable pub chained : (ℕ → Symbols → Symbols) → Reg → Form → Form → List Node → Symbols → Step
chained with_flag dst result carry table y =
    let r = made table result in
    let c = made r.table carry in
    goes c.table (with_flag c.number (with_node dst r.number y))

-- ADCX
abbrev pub adcx_step : Reg → ℕ → ℕ → List Node → Symbols → Step
adcx_step dst d s table y = on_flag y.cf
    (λ c. chained with_cf dst (sum (plus d ∷ plus s ∷ plus c ∷ [])) (forms.Carry (d ∷ s ∷ c ∷ []))) table y

-- ADOX: the same with the overflow flag
abbrev pub adox_step : Reg → ℕ → ℕ → List Node → Symbols → Step
adox_step dst d s table y = on_flag y.of
    (λ c. chained with_of dst (sum (plus d ∷ plus s ∷ plus c ∷ [])) (forms.Carry (d ∷ s ∷ c ∷ []))) table y

-- ---- products

-- MULX: the high word is written last
unfoldable pub mulx_step : Reg → Reg → ℕ → ℕ → List Node → Symbols → Step
mulx_step hi lo d s table y =
    let low = made table (forms.MulLo d s) in
    let high = made low.table (forms.MulHi d s) in
    goes high.table (with_node hi high.number (with_node lo low.number y))

-- MUL
unfoldable pub mul_step : ℕ → ℕ → List Node → Symbols → Step
mul_step d s table y =
    let low = made table (forms.MulLo d s) in
    let high = made low.table (forms.MulHi d s) in
    goes high.table (with_flags None None None (with_node Rax low.number (with_node Rdx high.number y)))

-- IMUL
unfoldable pub imul_step : Reg → ℕ → ℕ → List Node → Symbols → Step
imul_step dst d s table y =
    let r = made table (forms.MulLo d s) in goes r.table (with_flags None None None (with_node dst r.number y))

-- ---- shifts

-- SHL and SHR by a count from 1 to 63
abbrev pub shl_step : Reg → ℕ → ℕ → List Node → Symbols → Step
shl_step dst d k table y = result_and_zero None dst (sum (term (2 ^ k) d ∷ [])) table y

abbrev pub shr_step : Reg → ℕ → ℕ → List Node → Symbols → Step
shr_step dst d k table y = result_and_zero None dst (forms.Shr d k) table y

-- the sum of two forms, which are made first
unfoldable pub sum_of_two : Reg → Form → Form → List Node → Symbols → Step
sum_of_two dst first second table y =
    let a = made table first in
    let b = made a.table second in
    result_and_zero None dst (sum (plus a.number ∷ plus b.number ∷ [])) b.table y

-- SHRD: what is left of the low word, and what moves in from the high one
abbrev pub shrd_step : Reg → ℕ → ℕ → ℕ → List Node → Symbols → Step
shrd_step dst lo hi k table y = sum_of_two dst (forms.Shr lo k) (sum (term (2 ^ (64 - k)) hi ∷ [])) table y

-- the step on the constant that a count is, modulo 64; stuck where it is none
abbrev pub on_count : ℕ → (ℕ → List Node → Symbols → Step) → List Node → Symbols → Step
on_count count rest table y = pick (constant_at table count) (λ k. rest (k % 64) table y) (stuck table)

-- SHLX, by the node of its count
abbrev pub shlx_step : Reg → ℕ → ℕ → List Node → Symbols → Step
shlx_step dst count s table y = on_count count (λ k. result_only dst (sum (term (2 ^ k) s ∷ []))) table y

-- a shift to the right; by 0 it is the node itself
unfoldable pub shifted_right : Reg → ℕ → ℕ → List Node → Symbols → Step
shifted_right dst s k table y =
    if k == 0 then goes table (with_node dst s y) else result_only dst (forms.Shr s k) table y

-- SHRX
abbrev pub shrx_step : Reg → ℕ → ℕ → List Node → Symbols → Step
shrx_step dst count s table y = on_count count (shifted_right dst s) table y

-- ---- conditions and bytes

-- the condition is that its flag is clear
abbrev pub is_negated : Cond → Bool
is_negated conds.O = false
is_negated conds.No = true
is_negated conds.C = false
is_negated conds.Nc = true
is_negated conds.Z = false
is_negated conds.Nz = true

-- SETcc on its flag's node; of a clear flag the complement is made first
unfoldable pub set_by : Bool → Reg → ℕ → ℕ → List Node → Symbols → Step
set_by false dst d flag table y = result_only dst (forms.SetB d flag) table y
set_by true dst d flag table y =
    let clear = made table (forms.Lin 1 (minus flag ∷ [])) in result_only dst (forms.SetB d clear.number) clear.table y

abbrev pub set_step : Cond → Reg → ℕ → List Node → Symbols → Step
set_step cond dst d table y = on_flag (condition_node y cond) (set_by (is_negated cond) dst d) table y

-- the source where the condition holds, and else the destination
abbrev pub select_by : Bool → ℕ → ℕ → ℕ → Form
select_by false flag d s = forms.Select flag d s
select_by true flag d s = forms.Select flag s d

-- CMOVcc
abbrev pub cmov_step : Cond → Reg → ℕ → ℕ → List Node → Symbols → Step
cmov_step cond dst d s table y =
    on_flag (condition_node y cond) (λ flag. result_only dst (select_by (is_negated cond) flag d s)) table y

-- the node whose low byte another one was given, where it is known to be a byte
abbrev pub byte_of : List Node → NodeKind → Option ℕ
byte_of table (kinds.SetB v b) = guard (nat_le (node_at table b).high 255) b
byte_of table _ = None

-- MOVZX
unfoldable pub movzx_step : Reg → ℕ → List Node → Symbols → Step
movzx_step dst s table y = pick (byte_of table (node_at table s).kind) (λ b. goes table (with_node dst b y))
    (let mask = made table (forms.Const 255) in result_only dst (forms.And s mask.number) mask.table y)

-- ---- other rows

-- MOV to memory
unfoldable pub store_step : List Node → Symbols → Mem → ℕ → Step
store_step table y mem node =
    let address = made table (address_form y mem) in
    record {
      table = address.table;
      state = cell_named address.table y address.number >>= λ cell.
          option_map (with_touch (Some (touch_of true y cell))) (stored cell.area cell.word node y);
    }

-- CLC
unfoldable pub clc_step : List Node → Symbols → Step
clc_step table y = let c = made table (forms.Const 0) in goes c.table (with_cf c.number y)

-- ---- steps

-- A step, in a state in which no access stands yet. In order: MOV, MOV, MOV, LEA, (`bin_step`), TEST, (`un_step`),
-- ADCX, ADOX, MULX, MUL, IMUL, SHL, SHR, SHRD, SHLX, SHRX, SETcc, MOVZX, CMOVcc, CLC, RET.
abbrev pub step_from : Instr → List Node → Symbols → Step
step_from (instrs.Mov dst src) table y = on_source (rm_fetched table y src) y (λ s t u. goes t (with_node dst s u))
step_from (instrs.MovImm dst imm) table y = on_source (fetched_const table imm) y (λ s t u. goes t (with_node dst s u))
step_from (instrs.Store mem src) table y = store_step table y mem (node_in y src)
step_from (instrs.Lea dst mem) table y = result_only dst (address_form y mem) table y
step_from (instrs.Bin op dst src) table y = on_source (src_fetched table y src) y (bin_step op dst (node_in y dst))
step_from (instrs.Test a b) table y = logic None (forms.And (node_in y a) (node_in y b)) table y
step_from (instrs.Un op dst) table y = un_step op dst (node_in y dst) table y
step_from (instrs.Adcx dst src) table y = on_source (rm_fetched table y src) y (adcx_step dst (node_in y dst))
step_from (instrs.Adox dst src) table y = on_source (rm_fetched table y src) y (adox_step dst (node_in y dst))
step_from (instrs.Mulx hi lo src) table y = on_source (rm_fetched table y src) y (mulx_step hi lo (node_in y Rdx))
step_from (instrs.Mul src) table y = on_source (rm_fetched table y src) y (mul_step (node_in y Rax))
step_from (instrs.Imul dst src) table y = on_source (rm_fetched table y src) y (imul_step dst (node_in y dst))
step_from (instrs.Shl dst by) table y = shl_step dst (node_in y dst) by table y
step_from (instrs.Shr dst by) table y = shr_step dst (node_in y dst) by table y
step_from (instrs.Shrd dst src by) table y = shrd_step dst (node_in y dst) (node_in y src) by table y
step_from (instrs.Shlx dst src count) table y =
    on_source (rm_fetched table y src) y (shlx_step dst (node_in y count))
step_from (instrs.Shrx dst src count) table y =
    on_source (rm_fetched table y src) y (shrx_step dst (node_in y count))
step_from (instrs.Set cond dst) table y = set_step cond dst (node_in y dst) table y
step_from (instrs.Movzx dst src) table y = movzx_step dst (node_in y src) table y
step_from (instrs.Cmov cond dst src) table y =
    on_source (rm_fetched table y src) y (cmov_step cond dst (node_in y dst))
step_from instrs.Clc table y = clc_step table y
step_from instrs.Ret table y = goes table y

-- the symbolic step
unfoldable pub step_of : Instr → List Node → Symbols → Step
step_of instr table y = step_from instr table (with_touch None y)
