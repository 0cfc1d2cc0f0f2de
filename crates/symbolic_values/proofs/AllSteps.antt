-- The step of each instruction: it fits, and covers the machine's step.
use Rattle.std.proofs.Common.{◌≡◌, ℕ, ◌*◌, ◌/◌, ◌%◌, ◌^◌, ◌<◌, ◌≤◌, true, nat_le, List, length, Option, Some, None}
use Rattle.std.proofs.Common.{bit_and, refl, ap, option_map, option_and_then, arith}
use Rattle.std.proofs.lemmas.Bool.{and_parts}
use Rattle.std.proofs.lemmas.Bool.Decides.{nat_tests}
use Rattle.x86_instr.specs.declared.instr.Instr.{Instr}
use Rattle.x86_instr.specs.declared.instr.Instr.TheVariants as instrs
use Rattle.x86_instr.specs.declared.operand.Reg.TheVariants.{Rax, Rdx}
use Rattle.x86_instr.specs.declared.operand.Rm.{Rm}
use Rattle.x86_instr.specs.Access.{rm_access, src_access}
use Rattle.x86_instr.specs.Fits.{FitsInstr, FitsSrc}
use Rattle.x86_instr.specs.Ranges.{is_shift_count}
use Rattle.x86_meaning.specs.declared.state.State.{State}
use Rattle.x86_meaning.specs.Machine as machine
use Rattle.x86_meaning.specs.Machine.{adcx_into, adox_into, bin_into, bit, cmov_into, condition_holds}
use Rattle.x86_meaning.specs.Machine.{effective_address, imul_into, mul_into, mulx_into, reg, rm_word, src_word}
use Rattle.x86_meaning.specs.Machine.{un_into, with_logic_flags, with_reg}
use Rattle.x86_meaning.specs.Touches.{NoCell, touched, touched_by}
use Rattle.terms.specs.declared.nodes.Node.{Node}
use Rattle.terms.specs.declared.nodes.Form.TheVariants as forms
use Rattle.terms.specs.Tables.{IsTable}
use Rattle.symbolic_state.specs.Symbols.{Symbols, node_in, with_node, with_touch}
use Rattle.symbolic_state.specs.Cells.{address_form}
use Rattle.symbolic_state.specs.Fetching.{Word, fetched_const}
use Rattle.symbolic_state.specs.Fetching.{rm_fetched}
use Rattle.symbolic_state.specs.Fetching.{src_fetched}
use Rattle.symbolic_state.specs.Fitting.{FitsTable}
use Rattle.symbolic_values.specs.Steps.{Step, adcx_step, adox_step, bin_step, clc_step, cmov_step}
use Rattle.symbolic_values.specs.Steps.{goes, imul_step, logic, movzx_step, mul_step, mulx_step, on_source, result_only}
use Rattle.symbolic_values.specs.Steps.{set_step, shl_step, shlx_step, shr_step, shrd_step, shrx_step}
use Rattle.symbolic_values.specs.Steps.{step_from, step_of, un_step}
use Rattle.symbolic_state.proofs.LaterTables.{fits_touch}
use Rattle.symbolic_values.proofs.BinRows.{bin_row}
use Rattle.symbolic_values.proofs.ChainRows.{adcx_row, adox_row}
use Rattle.symbolic_values.proofs.ConditionRows.{cmov_row, movzx_row, set_row}
use Rattle.symbolic_values.proofs.Fetches.{const_fetches, rm_fetches, src_fetches}
use Rattle.symbolic_values.proofs.PlainRows.{clc_row, lea_row, test_row, un_row}
use Rattle.symbolic_values.proofs.ProductRows.{imul_row, mul_row, mulx_row}
use Rattle.symbolic_values.proofs.ShiftRows.{move_row, shlx_row, shrd_row, shrx_row}
use Rattle.symbolic_values.proofs.StepRows.{Row, grows_not}
use Rattle.symbolic_values.proofs.StoreRow.{store_whole}
use Rattle.symbolic_values.proofs.Wholes.{Whole, row_whole, source_whole}
use Rattle.symbolic_values.proofs.ZeroRows.{shl_row, shr_row}

ret_row : (t : List Node) (y : Symbols) → IsTable t → FitsTable t y → Row t y (λ r s. Some s) (goes t y)
ret_row t y table fits = record {
  grows = grows_not t table;
  fits = fits;
  touch = refl;
  covers = λ r s v a. record { next = s; is = refl; agrees = a };
}

shift_range : (k : ℕ) → is_shift_count k ≡ true → (1 ≤ k) × (k ≤ 63)
shift_range k e = let p = and_parts (nat_le 1 k) (nat_le k 63) e in
    (grind (arith, nat_tests, p.0), grind (arith, nat_tests, p.1))

module _ (t : List Node) (y : Symbols) (table : IsTable t) (fits : FitsTable t y) (none : y.touch ≡ None) where
  -- a step with a source in a register or the memory
  fetched_whole : (i : Instr) (src : Rm) (rest : ℕ → List Node → Symbols → Step) (next : ℕ → State → Option State)
      → ((s : State) (w : ℕ) → rm_word s src ≡ Some w → machine.step_of i s ≡ next w s)
      → ((s : State) → touched i s ≡ touched_by s (rm_access src))
      → ((w : Word) → w.node < length (rm_fetched t y src).table → IsTable (rm_fetched t y src).table
      → FitsTable (rm_fetched t y src).table (with_touch w.touch y)
      → Row (rm_fetched t y src).table (with_touch w.touch y) (λ r s. next (r.val w.node) s)
      (rest w.node (rm_fetched t y src).table (with_touch w.touch y)))
      → Whole i t y (on_source (rm_fetched t y src) y rest)
  fetched_whole i src rest next e accesses f =
      source_whole i t y fits (λ s. rm_word s src) (λ s. touched_by s (rm_access src)) rest next e accesses (Unit {0})
      (λ fit. tt) (rm_fetched t y src) (rm_fetches t y table fits src) f

  pub from_whole : (i : Instr) → FitsInstr i → Whole i t y (step_from i t y)
  from_whole (instrs.Mov dst src) ok =
      fetched_whole (instrs.Mov dst src) src (λ n u z. goes u (with_node dst n z))
      (λ word s. Some (with_reg dst word s)) (λ s w e. ap (option_map (λ word. with_reg dst word s)) e) (λ s. refl)
      (λ w inside table_u fits_u. move_row _ (with_touch w.touch y) dst w.node inside table_u fits_u)
  from_whole (instrs.MovImm dst imm) ok =
      source_whole (instrs.MovImm dst imm) t y fits (λ s. Some (imm % 2 ^ 64)) (λ s. NoCell)
      (λ n u z. goes u (with_node dst n z)) (λ word s. Some (with_reg dst word s))
      (λ s w e. ap (option_map (λ word. with_reg dst word s)) e) (λ s. refl) (Unit {0}) (λ fit. tt)
      (fetched_const t imm)
      (const_fetches t y table fits (Unit {0}) imm (imm % 2 ^ 64) (λ fit. refl))
      (λ w inside table_u fits_u. move_row _ (with_touch w.touch y) dst w.node inside table_u fits_u)
  from_whole (instrs.Store mem src) ok = store_whole t y table fits mem src
  from_whole (instrs.Lea dst mem) ok =
      row_whole (instrs.Lea dst mem) t y (λ r s. Some (with_reg dst (effective_address s mem) s))
      (result_only dst (address_form y mem) t y) none (λ r s. refl) (λ s. refl)
      (lea_row t y table fits dst mem)
  from_whole (instrs.Bin op dst src) ok =
      source_whole (instrs.Bin op dst src) t y fits (λ s. src_word s src) (λ s. touched_by s (src_access src))
      (bin_step op dst (node_in y dst)) (λ word s. bin_into op dst word s)
      (λ s w e. ap (option_and_then (λ word. bin_into op dst word s)) e) (λ s. refl) (FitsSrc src) (λ fit. fit)
      (src_fetched t y src) (src_fetches t y table fits src)
      (λ w inside table_u fits_u. bin_row dst _ (with_touch w.touch y) table_u fits_u w.node inside op)
  from_whole (instrs.Test a b) ok =
      row_whole (instrs.Test a b) t y (λ r s. Some (with_logic_flags (bit_and (reg s a) (reg s b)) s))
      (logic None (forms.And (node_in y a) (node_in y b)) t y) none (λ r s. refl) (λ s. refl)
      (test_row t y table fits a b)
  from_whole (instrs.Un op dst) ok =
      row_whole (instrs.Un op dst) t y (λ r s. Some (un_into op dst (reg s dst) s)) (un_step op dst (node_in y dst) t y)
      none (λ r s. refl) (λ s. refl) (un_row t y table fits dst op)
  from_whole (instrs.Adcx dst src) ok =
      fetched_whole (instrs.Adcx dst src) src (adcx_step dst (node_in y dst))
      (λ word s. option_map (λ carry. adcx_into dst word (bit carry) s) s.cf)
      (λ s w e. ap (option_and_then (λ word. option_map (λ carry. adcx_into dst word (bit carry) s) s.cf)) e)
      (λ s. refl)
      (λ w inside table_u fits_u. adcx_row dst _ (with_touch w.touch y) table_u fits_u w.node inside)
  from_whole (instrs.Adox dst src) ok =
      fetched_whole (instrs.Adox dst src) src (adox_step dst (node_in y dst))
      (λ word s. option_map (λ carry. adox_into dst word (bit carry) s) s.of)
      (λ s w e. ap (option_and_then (λ word. option_map (λ carry. adox_into dst word (bit carry) s) s.of)) e)
      (λ s. refl)
      (λ w inside table_u fits_u. adox_row dst _ (with_touch w.touch y) table_u fits_u w.node inside)
  from_whole (instrs.Mulx hi lo src) ok =
      fetched_whole (instrs.Mulx hi lo src) src (mulx_step hi lo (node_in y Rdx))
      (λ word s. Some (mulx_into hi lo (reg s Rdx * word) s))
      (λ s w e. ap (option_map (λ word. mulx_into hi lo (reg s Rdx * word) s)) e) (λ s. refl)
      (λ w inside table_u fits_u. mulx_row _ (with_touch w.touch y) table_u fits_u w.node inside hi lo)
  from_whole (instrs.Mul src) ok =
      fetched_whole (instrs.Mul src) src (mul_step (node_in y Rax)) (λ word s. Some (mul_into (reg s Rax * word) s))
      (λ s w e. ap (option_map (λ word. mul_into (reg s Rax * word) s)) e) (λ s. refl)
      (λ w inside table_u fits_u. mul_row _ (with_touch w.touch y) table_u fits_u w.node inside)
  from_whole (instrs.Imul dst src) ok =
      fetched_whole (instrs.Imul dst src) src (imul_step dst (node_in y dst))
      (λ word s. Some (imul_into dst (reg s dst * word) s))
      (λ s w e. ap (option_map (λ word. imul_into dst (reg s dst * word) s)) e) (λ s. refl)
      (λ w inside table_u fits_u. imul_row _ (with_touch w.touch y) table_u fits_u w.node inside dst)
  from_whole (instrs.Shl dst by) ok =
      row_whole (instrs.Shl dst by) t y (λ r s. machine.step_of (instrs.Shl dst by) s)
      (shl_step dst (node_in y dst) by t y) none (λ r s. refl) (λ s. refl) (shl_row t y table fits dst by)
  from_whole (instrs.Shr dst by) ok = let range = shift_range by ok in
      row_whole (instrs.Shr dst by) t y (λ r s. machine.step_of (instrs.Shr dst by) s)
      (shr_step dst (node_in y dst) by t y) none (λ r s. refl) (λ s. refl)
      (shr_row t y table fits dst by range.0 range.1)
  from_whole (instrs.Shrd dst src by) ok = let range = shift_range by ok in
      row_whole (instrs.Shrd dst src by) t y (λ r s. machine.step_of (instrs.Shrd dst src by) s)
      (shrd_step dst (node_in y dst) (node_in y src) by t y) none (λ r s. refl) (λ s. refl)
      (shrd_row t y table fits dst src by range.0 range.1)
  from_whole (instrs.Shlx dst src count) ok =
      fetched_whole (instrs.Shlx dst src count) src (shlx_step dst (node_in y count))
      (λ word s. Some (with_reg dst (word * 2 ^ (reg s count % 64) % 2 ^ 64) s))
      (λ s w e. ap (option_map (λ word. with_reg dst (word * 2 ^ (reg s count % 64) % 2 ^ 64) s)) e) (λ s. refl)
      (λ w inside table_u fits_u. shlx_row _ (with_touch w.touch y) table_u fits_u dst count w.node inside)
  from_whole (instrs.Shrx dst src count) ok =
      fetched_whole (instrs.Shrx dst src count) src (shrx_step dst (node_in y count))
      (λ word s. Some (with_reg dst (word / 2 ^ (reg s count % 64)) s))
      (λ s w e. ap (option_map (λ word. with_reg dst (word / 2 ^ (reg s count % 64)) s)) e) (λ s. refl)
      (λ w inside table_u fits_u. shrx_row _ (with_touch w.touch y) table_u fits_u dst count w.node inside)
  from_whole (instrs.Set cond dst) ok =
      row_whole (instrs.Set cond dst) t y (λ r s. machine.step_of (instrs.Set cond dst) s)
      (set_step cond dst (node_in y dst) t y) none (λ r s. refl) (λ s. refl) (set_row t y table fits cond dst)
  from_whole (instrs.Movzx dst src) ok =
      row_whole (instrs.Movzx dst src) t y (λ r s. machine.step_of (instrs.Movzx dst src) s)
      (movzx_step dst (node_in y src) t y) none (λ r s. refl) (λ s. refl) (movzx_row t y table fits dst src)
  from_whole (instrs.Cmov cond dst src) ok =
      fetched_whole (instrs.Cmov cond dst src) src (cmov_step cond dst (node_in y dst))
      (λ word s. option_map (λ b. cmov_into dst word b s) (condition_holds s cond))
      (λ s w e. ap (option_and_then (λ word. option_map (λ b. cmov_into dst word b s) (condition_holds s cond))) e)
      (λ s. refl)
      (λ w inside table_u fits_u. cmov_row _ (with_touch w.touch y) table_u fits_u cond dst w.node inside)
  from_whole instrs.Clc ok =
      row_whole instrs.Clc t y (λ r s. machine.step_of instrs.Clc s) (clc_step t y) none (λ r s. refl) (λ s. refl)
      (clc_row t y table fits)
  from_whole instrs.Ret ok =
      row_whole instrs.Ret t y (λ r s. Some s) (goes t y) none (λ r s. refl) (λ s. refl) (ret_row t y table fits)

-- the symbolic step, from a state in which any access may stand
pub step_whole : (i : Instr) (t : List Node) (y : Symbols) → FitsInstr i → IsTable t → FitsTable t y
    → Whole i t (with_touch None y) (step_of i t y)
unfolding step_of
step_whole i t y ok table fits = from_whole t (with_touch None y) table (fits_touch t y None fits) refl i ok
