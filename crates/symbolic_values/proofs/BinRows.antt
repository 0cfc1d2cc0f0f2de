-- The rows of ADD, ADC, SUB, SBB, AND, OR, XOR and CMP, from their operands' nodes.
use Rattle.std.proofs.Common.{◌≡◌, ℕ, ◌+◌, ◌-◌, ◌%◌, ◌^◌, ◌<◌, false, List, []}
use Rattle.std.proofs.Common.{◌∷◌, length, nat_le, nat_lt, Option, Some, None, option_map, bit_and}
use Rattle.std.proofs.Common.{bit_or, bit_xor, refl, sym, ap, arith}
use Rattle.x86_instr.specs.declared.operand.Reg.{Reg}
use Rattle.x86_instr.specs.declared.instr.Bin.{Bin}
use Rattle.x86_instr.specs.declared.instr.Bin.TheVariants.{Add, Adc, Sub, Sbb, And, Or, Xor, Cmp}
use Rattle.x86_meaning.specs.declared.state.State.{State}
use Rattle.x86_meaning.specs.Machine.{bin_into, biased, bit, difference_into, overflows, reg, sum_into}
use Rattle.terms.specs.declared.nodes.Node.{Node}
use Rattle.terms.specs.declared.nodes.Form.TheVariants as forms
use Rattle.terms.specs.Tables.{IsTable}
use Rattle.symbolic_state.specs.Symbols.{Symbols, node_in}
use Rattle.symbolic_values.specs.Steps.{arithmetic, bin_step}
use Rattle.program_nodes.specs.Terms.{minus, plus, sum}
use Rattle.program_nodes.specs.Operands.{IsBit}
use Rattle.program_nodes.proofs.FormsFit.{carry2_fits, carry_last_fits, numbers_below, terms_below}
use Rattle.symbolic_state.specs.Fitting.{FitsTable}
use Rattle.symbolic_state.proofs.LaterTables.{node_inside}
use Rattle.symbolic_state.proofs.Runs.{Run, Agreed}
use Rattle.symbolic_values.proofs.ChainRows.{IsFlag, flag_bit, flag_known}
use Rattle.symbolic_values.proofs.RowResults.{arithmetic_row, logic_row}
use Rattle.symbolic_values.proofs.StepRows.{Row, flag_row}
use Rattle.symbolic_values.proofs.Words.{added, added_with, bit_small, borrowed, borrowed_one, borrowed_with, carried}
use Rattle.symbolic_values.proofs.Words.{carried_two, compared, subtracted, subtracted_with}

module _ (dst : Reg) (t : List Node) (y : Symbols) (table : IsTable t) (fits : FitsTable t y) (s : ℕ)
    (inside : s < length t) where
  abbrev d : ℕ
  d = node_in y dst

  d_inside : d < length t
  d_inside = node_inside t y fits dst

  -- the machine's step on the source's word
  abbrev Next : Bin → Run → State → Option State
  Next op r st = bin_into op dst (r.val s) st

  add_row : Row t y (Next Add) (bin_step Add dst d s t y)
  add_row = arithmetic_row t y table fits (Next Add) (sum (plus d ∷ plus s ∷ []))
      (terms_below (length t) (plus d ∷ plus s ∷ []) (d_inside, (inside, tt)), omega arith) tt
      (Some dst) (forms.Carry (d ∷ s ∷ [])) (carry2_fits t d s d_inside inside) tt tt
      (λ r st v a. let e = a.registers dst in let small = v.sound.word in record {
        word = (reg st dst + r.val s + 0) % 2 ^ 64;
        out = nat_le (2 ^ 64) (reg st dst + r.val s + 0);
        overflow = Some (overflows (biased (reg st dst) + biased (r.val s) + 0));
        goes = refl;
        is = rw e (added (r.val d) (r.val s));
        carries = rw e (carried_two (r.val d) (r.val s) (small d d_inside) (small s inside));
        overflows = λ n k. tt;
      })

  carry_known : (c : ℕ) → y.cf ≡ Some c → (r : Run) (st : State) → Agreed r y st → IsFlag r c st.cf
  carry_known c e r st a = flag_known r y.cf st.cf c e a.cf

  carry_bit : (c : ℕ) → y.cf ≡ Some c → IsBit t c
  carry_bit c e = flag_bit t y.cf c e fits.cf

  adc_row : Row t y (Next Adc) (bin_step Adc dst d s t y)
  adc_row = flag_row t y (Next Adc) y.cf
      (λ c. arithmetic (Some dst) (sum (plus d ∷ plus s ∷ plus c ∷ [])) (forms.Carry (d ∷ s ∷ c ∷ []))) table (λ c k.
      let b = carry_bit c k in
      arithmetic_row t y table fits (Next Adc) (sum (plus d ∷ plus s ∷ plus c ∷ [])) (
        terms_below (length t) (plus d ∷ plus s ∷ plus c ∷ []) (d_inside, (inside, (b.inside, tt))),
        omega arith,
      ) tt
      (Some dst) (forms.Carry (d ∷ s ∷ c ∷ [])) (carry_last_fits t d s c d_inside inside b.inside b.high) tt tt
      (λ r st v a.
      let e = a.registers dst in let small = v.sound.word in let f = carry_known c k r st a in
      record {
        word = (reg st dst + r.val s + bit f.value) % 2 ^ 64;
        out = nat_le (2 ^ 64) (reg st dst + r.val s + bit f.value);
        overflow = Some (overflows (biased (reg st dst) + biased (r.val s) + bit f.value));
        goes = ap (option_map (λ carry. sum_into dst (reg st dst) (r.val s) (bit carry) st)) f.defined;
        is = rw (e, ← f.word) (added_with (r.val d) (r.val s) (r.val c));
        carries = rw (e, ← f.word) (carried (r.val d) (r.val s) (r.val c) (small d d_inside) (small s inside)
            (rw f.word (bit_small f.value)));
        overflows = λ n j. tt;
      }))

  sub_row : Row t y (Next Sub) (bin_step Sub dst d s t y)
  sub_row = arithmetic_row t y table fits (Next Sub) (sum (plus d ∷ minus s ∷ []))
      (terms_below (length t) (plus d ∷ minus s ∷ []) (d_inside, (inside, tt)), omega arith) tt
      (Some dst) (forms.Borrow d (s ∷ []))
      (d_inside, numbers_below (length t) (s ∷ []) (inside, tt), omega arith, omega arith) tt tt
      (λ r st v a. let e = a.registers dst in let small = v.sound.word in record {
        word = (reg st dst + 2 ^ 64 - (r.val s + 0)) % 2 ^ 64;
        out = nat_lt (reg st dst) (r.val s + 0);
        overflow = Some (overflows (biased (reg st dst) + 2 ^ 64 - (biased (r.val s) + 0)));
        goes = refl;
        is = rw e (subtracted (r.val d) (r.val s) (small s inside));
        carries = rw e (borrowed (r.val d) (r.val s));
        overflows = λ n k. tt;
      })

  sbb_row : Row t y (Next Sbb) (bin_step Sbb dst d s t y)
  sbb_row = flag_row t y (Next Sbb) y.cf
      (λ c. arithmetic (Some dst) (sum (plus d ∷ minus s ∷ minus c ∷ [])) (forms.Borrow d (s ∷ c ∷ []))) table (λ c k.
      let b = carry_bit c k in
      arithmetic_row t y table fits (Next Sbb) (sum (plus d ∷ minus s ∷ minus c ∷ [])) (
        terms_below (length t) (plus d ∷ minus s ∷ minus c ∷ []) (d_inside, (inside, (b.inside, tt))),
        omega arith,
      ) tt
      (Some dst) (forms.Borrow d (s ∷ c ∷ []))
      (d_inside, numbers_below (length t) (s ∷ c ∷ []) (inside, (b.inside, tt)), omega arith, omega arith) tt tt
      (λ r st v a.
      let e = a.registers dst in let small = v.sound.word in let f = carry_known c k r st a in
      record {
        word = (reg st dst + 2 ^ 64 - (r.val s + bit f.value)) % 2 ^ 64;
        out = nat_lt (reg st dst) (r.val s + bit f.value);
        overflow = Some (overflows (biased (reg st dst) + 2 ^ 64 - (biased (r.val s) + bit f.value)));
        goes = ap (option_map (λ borrow. difference_into dst (reg st dst) (r.val s) (bit borrow) st)) f.defined;
        is = rw (e, ← f.word) (subtracted_with (r.val d) (r.val s) (r.val c) (small s inside)
            (rw f.word (bit_small f.value)));
        carries = rw (e, ← f.word) (borrowed_with (r.val d) (r.val s) (r.val c));
        overflows = λ n j. tt;
      }))

  and_row : Row t y (Next And) (bin_step And dst d s t y)
  and_row = logic_row t y table fits (Next And) (forms.And d s) (d_inside, inside) tt (Some dst)
      (λ r st v a. record {
        word = bit_and (reg st dst) (r.val s);
        out = false;
        overflow = Some false;
        goes = refl;
        is = ap (λ n. bit_and n (r.val s)) (sym (a.registers dst));
        carries = refl;
        overflows = λ n k. (false, refl, k);
      })

  or_row : Row t y (Next Or) (bin_step Or dst d s t y)
  or_row = logic_row t y table fits (Next Or) (forms.Or d s) (d_inside, inside) tt (Some dst)
      (λ r st v a. record {
        word = bit_or (reg st dst) (r.val s);
        out = false;
        overflow = Some false;
        goes = refl;
        is = ap (λ n. bit_or n (r.val s)) (sym (a.registers dst));
        carries = refl;
        overflows = λ n k. (false, refl, k);
      })

  xor_row : Row t y (Next Xor) (bin_step Xor dst d s t y)
  xor_row = logic_row t y table fits (Next Xor) (forms.Xor d s) (d_inside, inside) tt (Some dst)
      (λ r st v a. record {
        word = bit_xor (reg st dst) (r.val s);
        out = false;
        overflow = Some false;
        goes = refl;
        is = ap (λ n. bit_xor n (r.val s)) (sym (a.registers dst));
        carries = refl;
        overflows = λ n k. (false, refl, k);
      })

  cmp_row : Row t y (Next Cmp) (bin_step Cmp dst d s t y)
  cmp_row = arithmetic_row t y table fits (Next Cmp) (sum (plus d ∷ minus s ∷ []))
      (terms_below (length t) (plus d ∷ minus s ∷ []) (d_inside, (inside, tt)), omega arith) tt
      None (forms.Borrow d (s ∷ []))
      (d_inside, numbers_below (length t) (s ∷ []) (inside, tt), omega arith, omega arith) tt tt
      (λ r st v a. let e = a.registers dst in let small = v.sound.word in record {
        word = (reg st dst + 2 ^ 64 - r.val s) % 2 ^ 64;
        out = nat_lt (reg st dst) (r.val s);
        overflow = Some (overflows (biased (reg st dst) + 2 ^ 64 - biased (r.val s)));
        goes = refl;
        is = rw e (compared (r.val d) (r.val s) (small s inside));
        carries = rw e (borrowed_one (r.val d) (r.val s));
        overflows = λ n k. tt;
      })

  pub bin_row : (op : Bin) → Row t y (Next op) (bin_step op dst d s t y)
  bin_row Add = add_row
  bin_row Adc = adc_row
  bin_row Sub = sub_row
  bin_row Sbb = sbb_row
  bin_row And = and_row
  bin_row Or = or_row
  bin_row Xor = xor_row
  bin_row Cmp = cmp_row
