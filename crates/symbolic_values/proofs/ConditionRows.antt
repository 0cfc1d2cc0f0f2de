-- The rows of SETcc, CMOVcc and MOVZX.
use Rattle.std.proofs.Common.{◌≡◌, ℕ, ◌+◌, ◌-◌, ◌*◌, ◌/◌, ◌%◌, ◌^◌, ◌<◌, ◌≤◌, ◌==◌, nat_le, Bool, true, false, not}
use Rattle.std.proofs.Common.{List, [], ◌∷◌, length, Option, Some, None, option_map, if◌then◌else◌, bit_and, refl}
use Rattle.std.proofs.Common.{ap, ◌∙◌, subst, arith}
use Rattle.std.proofs.lemmas.Bool.Decides.{nat_tests}
use Rattle.std.proofs.lemmas.Nat.{and_mask}
use Rattle.base.specs.Options.{guard, pick}
use Rattle.x86_instr.specs.declared.operand.Reg.{Reg}
use Rattle.x86_instr.specs.declared.instr.Cond.{Cond}
use Rattle.x86_instr.specs.declared.instr.Cond.TheVariants as conds
use Rattle.x86_meaning.specs.declared.state.State.{State}
use Rattle.x86_meaning.specs.Machine.{bit, cmov_into, condition_holds, reg, set_into, with_reg}
use Rattle.terms.specs.declared.nodes.Node.{Node}
use Rattle.terms.specs.declared.nodes.NodeKind.{NodeKind}
use Rattle.terms.specs.declared.nodes.NodeKind.TheVariants as kinds
use Rattle.terms.specs.declared.nodes.Form.TheVariants as forms
use Rattle.terms.specs.Tables.{IsTable, RefersBelow, node_at}
use Rattle.terms.specs.Meaning.{kind_value, with_low_byte}
use Rattle.term_store.specs.Interning.{made}
use Rattle.term_store.proofs.Prefixes.{prefix_length}
use Rattle.program_nodes.specs.Terms.{minus}
use Rattle.program_nodes.specs.Operands.{IsBit}
use Rattle.program_nodes.proofs.FormsFit.{one_fits}
use Rattle.symbolic_state.specs.Symbols.{Symbols, node_in, with_node}
use Rattle.symbolic_state.specs.Symbols.{condition_node}
use Rattle.symbolic_state.specs.Fitting.{FitsTable}
use Rattle.symbolic_values.specs.Steps.{byte_of, cmov_step, goes, is_negated, movzx_step}
use Rattle.symbolic_values.specs.Steps.{result_only, select_by, set_by, set_step}
use Rattle.symbolic_state.proofs.LaterTables.{fits_table_later, fits_write, node_inside}
use Rattle.symbolic_state.proofs.Runs.{Run, Agreed, start_in}
use Rattle.symbolic_values.proofs.ChainRows.{IsFlag, flag_bit, flag_known}
use Rattle.symbolic_values.proofs.RowResults.{agrees_written, result_row, written}
use Rattle.symbolic_values.proofs.StepRows.{Row, flag_row, grows_not, makes, row_on}

-- ---- conditions

-- the condition, where the bit of its flag is `flag`
abbrev turned : Bool → Bool → Bool
turned false flag = flag
turned true flag = not flag

-- what a known flag says of the condition
record IsCondition (r : Run) (cond : Cond) (f : ℕ) (s : State) : Type 0 where
  flag : Bool
  holds : condition_holds s cond ≡ Some (turned (is_negated cond) flag)
  word : r.val f ≡ bit flag

condition_bit : (t : List Node) (y : Symbols) (cond : Cond) (f : ℕ) → FitsTable t y → condition_node y cond ≡ Some f
    → IsBit t f
condition_bit t y conds.O f fits e = flag_bit t y.of f e fits.of
condition_bit t y conds.No f fits e = flag_bit t y.of f e fits.of
condition_bit t y conds.C f fits e = flag_bit t y.cf f e fits.cf
condition_bit t y conds.Nc f fits e = flag_bit t y.cf f e fits.cf
condition_bit t y conds.Z f fits e = flag_bit t y.zf f e fits.zf
condition_bit t y conds.Nz f fits e = flag_bit t y.zf f e fits.zf

set_flag : (r : Run) (f : ℕ) (o : Option Bool) → IsFlag r f o → (b : Bool) × (o ≡ Some b) × (r.val f ≡ bit b)
set_flag r f o k = (k.value, k.defined, k.word)

clear_flag : (r : Run) (f : ℕ) (o : Option Bool) → IsFlag r f o
    → (b : Bool) × (option_map (λ c. not c) o ≡ Some (not b)) × (r.val f ≡ bit b)
clear_flag r f o k = (k.value, ap (option_map (λ c. not c)) k.defined, k.word)

condition_known : (r : Run) (y : Symbols) (s : State) (cond : Cond) (f : ℕ) → Agreed r y s
    → condition_node y cond ≡ Some f → IsCondition r cond f s
condition_known r y s conds.O f a e = let k = set_flag r f s.of (flag_known r y.of s.of f e a.of) in
    record { flag = k.0; holds = k.1; word = k.2 }
condition_known r y s conds.No f a e = let k = clear_flag r f s.of (flag_known r y.of s.of f e a.of) in
    record { flag = k.0; holds = k.1; word = k.2 }
condition_known r y s conds.C f a e = let k = set_flag r f s.cf (flag_known r y.cf s.cf f e a.cf) in
    record { flag = k.0; holds = k.1; word = k.2 }
condition_known r y s conds.Nc f a e = let k = clear_flag r f s.cf (flag_known r y.cf s.cf f e a.cf) in
    record { flag = k.0; holds = k.1; word = k.2 }
condition_known r y s conds.Z f a e = let k = set_flag r f s.zf (flag_known r y.zf s.zf f e a.zf) in
    record { flag = k.0; holds = k.1; word = k.2 }
condition_known r y s conds.Nz f a e = let k = clear_flag r f s.zf (flag_known r y.zf s.zf f e a.zf) in
    record { flag = k.0; holds = k.1; word = k.2 }

-- ---- words

low_bit : (d f : ℕ) (b : Bool) → f ≡ bit b → with_low_byte d f ≡ 256 * (d / 256) + bit b
low_bit d f true e = rw e (omega arith)
low_bit d f false e = rw e (omega arith)

complement : (f : ℕ) (b : Bool) → f ≡ bit b → (1 + ((2 ^ 64 - 1) * f + 0)) % 2 ^ 64 ≡ bit (not b)
complement f true e = rw e (omega arith)
complement f false e = rw e (omega arith)

selected : (f d s : ℕ) (b : Bool) → f ≡ bit b → (if f == 0 then d else s) ≡ (if b then s else d)
selected f d s true e = rw e refl
selected f d s false e = rw e refl

selected_clear : (f d s : ℕ) (b : Bool) → f ≡ bit b → (if f == 0 then s else d) ≡ (if not b then s else d)
selected_clear f d s true e = rw e refl
selected_clear f d s false e = rw e refl

-- ---- SETcc

module _ (t : List Node) (y : Symbols) (table : IsTable t) (fits : FitsTable t y) where
  module _ (cond : Cond) (dst : Reg) where
    abbrev d : ℕ
    d = node_in y dst

    abbrev Next_set : Run → State → Option State
    Next_set r s = option_map (λ b. set_into dst b s) (condition_holds s cond)

    set_row_by : (f : ℕ) → IsBit t f → (negated : Bool)
        → ((r : Run) (s : State) → Agreed r y s → (b : Bool) × (condition_holds s cond ≡ Some (turned negated b))
        × (r.val f ≡ bit b))
        → Row t y Next_set (set_by negated dst d f t y)
    unfolding set_by
    set_row_by f bit_f false known = result_row t y table fits Next_set (forms.SetB d f)
        (node_inside t y fits dst, bit_f.inside) tt dst
        (λ r s v a. let k = known r s a in let e = a.registers dst in record {
          word = 256 * (reg s dst / 256) + bit k.0;
          goes = ap (option_map (λ b. set_into dst b s)) k.1;
          is = rw e (low_bit (r.val d) (r.val f) k.0 k.2);
        })
    set_row_by f bit_f true known =
        let n = made t (forms.Lin 1 (minus f ∷ [])) in
        let m = makes t (forms.Lin 1 (minus f ∷ [])) table (one_fits t 1 (minus f) bit_f.inside) tt in
        let longer = prefix_length m.grows.prefix in
        let here = node_inside t y fits dst in
        let d_later : d < length n.table = omega arith in
        row_on t n.table y Next_set (result_only dst (forms.SetB d n.number) n.table y) m.grows
        (result_row n.table y m.grows.table (fits_table_later t n.table m.grows.prefix y fits) Next_set
        (forms.SetB d n.number) (d_later, m.inside) tt dst
        (λ r s v a. let k = known r s a in let e = a.registers dst in record {
          word = 256 * (reg s dst / 256) + bit (not k.0);
          goes = ap (option_map (λ b. set_into dst b s)) k.1;
          is = rw e (low_bit (r.val d) (r.val n.number) (not k.0) (m.word r v ∙ complement (r.val f) k.0 k.2));
        }))

    pub set_row : Row t y Next_set (set_step cond dst d t y)
    set_row = flag_row t y Next_set (condition_node y cond) (set_by (is_negated cond) dst d) table (λ f e.
        set_row_by f (condition_bit t y cond f fits e) (is_negated cond)
        (λ r s a. let k = condition_known r y s cond f a e in (k.flag, k.holds, k.word)))

  -- ---- CMOVcc

  module _ (cond : Cond) (dst : Reg) (s : ℕ) (inside : s < length t) where
    abbrev old : ℕ
    old = node_in y dst

    abbrev Next_cmov : Run → State → Option State
    Next_cmov r st = option_map (λ b. cmov_into dst (r.val s) b st) (condition_holds st cond)

    cmov_row_by : (f : ℕ) → IsBit t f → (negated : Bool)
        → ((r : Run) (st : State) → Agreed r y st → (b : Bool) × (condition_holds st cond ≡ Some (turned negated b))
        × (r.val f ≡ bit b))
        → Row t y Next_cmov (result_only dst (select_by negated f old s) t y)
    cmov_row_by f bit_f false known = result_row t y table fits Next_cmov (forms.Select f old s)
        (bit_f.inside, node_inside t y fits dst, inside) tt dst
        (λ r st v a. let k = known r st a in let e = a.registers dst in record {
          word = if k.0 then r.val s else reg st dst;
          goes = ap (option_map (λ b. cmov_into dst (r.val s) b st)) k.1;
          is = rw e (selected (r.val f) (r.val old) (r.val s) k.0 k.2);
        })
    cmov_row_by f bit_f true known = result_row t y table fits Next_cmov (forms.Select f s old)
        (bit_f.inside, inside, node_inside t y fits dst) tt dst
        (λ r st v a. let k = known r st a in let e = a.registers dst in record {
          word = if not k.0 then r.val s else reg st dst;
          goes = ap (option_map (λ b. cmov_into dst (r.val s) b st)) k.1;
          is = rw e (selected_clear (r.val f) (r.val old) (r.val s) k.0 k.2);
        })

    pub cmov_row : Row t y Next_cmov (cmov_step cond dst old s t y)
    cmov_row = flag_row t y Next_cmov (condition_node y cond)
        (λ flag. result_only dst (select_by (is_negated cond) flag old s)) table (λ f e.
        cmov_row_by f (condition_bit t y cond f fits e) (is_negated cond)
        (λ r st a. let k = condition_known r y st cond f a e in (k.flag, k.holds, k.word)))

  -- ---- MOVZX

  module _ (dst src : Reg) where
    abbrev s : ℕ
    s = node_in y src

    abbrev Next_movzx : Run → State → Option State
    Next_movzx r st = Some (with_reg dst (reg st src % 256) st)

    -- a byte, which was put into the source
    record IsByte (b : ℕ) : Type 0 where
      v : ℕ
      kind : (node_at t s).kind ≡ kinds.SetB v b
      high : (node_at t b).high ≤ 255

    byte_is : (kind : NodeKind) (b : ℕ) → (node_at t s).kind ≡ kind → byte_of t kind ≡ Some b → IsByte b
    byte_is (kinds.SetB v b) c e f = guarded (nat_le (node_at t b).high 255) refl f where
      guarded : (test : Bool) → nat_le (node_at t b).high 255 ≡ test → guard test b ≡ Some c → IsByte c
      guarded true h g =
          let same : b ≡ c = cc in
          subst IsByte same (record { v = v; kind = e; high = grind (arith, nat_tests) })
      guarded false h g = absurd (cc)
    byte_is kind b e f = absurd (cc)

    byte_row : (b : ℕ) → IsByte b → Row t y Next_movzx (goes t (with_node dst b y))
    byte_row b is =
        let here = node_inside t y fits src in
        let refers = subst (RefersBelow s) is.kind (table.below s here) in
        let below : b < s = refers.1 in
        let inside : b < length t = omega arith in
        let small = is.high in
        record {
          grows = grows_not t table;
          fits = fits_write t y (Some dst) b inside fits;
          touch = refl;
          covers = λ r st v a.
              let word : r.val s ≡ with_low_byte (r.val is.v) (r.val b) =
              v.is.meets s here ∙ ap (kind_value (start_in r) r.val) is.kind in
              let least : r.val b ≤ (node_at t b).high = v.sound.below b inside in
              let e : reg st src ≡ r.val s = a.registers src in
              let same : reg st src % 256 ≡ r.val b = omega arith in
              record {
                next = written (Some dst) (reg st src % 256) st.cf st.of st.zf st;
                is = refl;
                agrees = agrees_written r t y st fits a (Some dst) (reg st src % 256) b same y.cf y.of y.zf st.cf st.of
                    st.zf a.cf a.of a.zf;
              };
        }

    mask_row : Row t y Next_movzx
        (let mask = made t (forms.Const 255) in result_only dst (forms.And s mask.number) mask.table y)
    mask_row =
        let mask = made t (forms.Const 255) in
        let m = makes t (forms.Const 255) table (omega arith) tt in
        let longer = prefix_length m.grows.prefix in
        let here = node_inside t y fits src in
        let s_later : s < length mask.table = omega arith in
        row_on t mask.table y Next_movzx (result_only dst (forms.And s mask.number) mask.table y) m.grows
        (result_row mask.table y m.grows.table (fits_table_later t mask.table m.grows.prefix y fits) Next_movzx
        (forms.And s mask.number) (s_later, m.inside) tt dst
        (λ r st v a. let e = a.registers src in record {
          word = reg st src % 256;
          goes = refl;
          is = rw e (ap (bit_and (r.val s)) (m.word r v) ∙ and_mask (r.val s) 8);
        }))

    pub movzx_row : Row t y Next_movzx (movzx_step dst s t y)
    unfolding movzx_step
    movzx_row = by_byte (byte_of t (node_at t s).kind) refl where
      by_byte : (o : Option ℕ) → byte_of t (node_at t s).kind ≡ o
          → Row t y Next_movzx (pick o (λ b. goes t (with_node dst b y))
          (let mask = made t (forms.Const 255) in result_only dst (forms.And s mask.number) mask.table y))
      by_byte None e = mask_row
      by_byte (Some b) e = byte_row b (byte_is (node_at t s).kind b refl e)
