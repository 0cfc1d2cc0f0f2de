-- The rows of LEA, TEST, the instructions on one register, and CLC.
use Rattle.std.proofs.Common.{ℕ, ◌-◌, ◌%◌, ◌^◌, ◌<◌, ◌==◌, false, not, List}
use Rattle.std.proofs.Common.{[], ◌∷◌, length, Option, Some, None, bit_and, refl, arith}
use Rattle.x86_instr.specs.declared.operand.Mem.{Mem}
use Rattle.x86_instr.specs.declared.operand.Reg.{Reg}
use Rattle.x86_instr.specs.declared.instr.Un.{Un}
use Rattle.x86_instr.specs.declared.instr.Un.TheVariants.{Inc, Dec, Neg, Not}
use Rattle.x86_meaning.specs.declared.state.State.{State}
use Rattle.x86_meaning.specs.Machine.{effective_address, reg, un_into, with_logic_flags, with_reg}
use Rattle.terms.specs.declared.nodes.Node.{Node}
use Rattle.terms.specs.declared.nodes.Form.TheVariants as forms
use Rattle.terms.specs.Tables.{IsTable}
use Rattle.term_store.specs.Interning.{made}
use Rattle.term_store.proofs.Made.{made_bit}
use Rattle.term_store.proofs.Prefixes.{prefix_length}
use Rattle.symbolic_state.specs.Symbols.{Symbols, node_in}
use Rattle.symbolic_state.specs.Cells.{address_form}
use Rattle.symbolic_values.specs.Steps.{arithmetic, clc_step, logic, neg_step, result_only, un_step}
use Rattle.program_nodes.specs.Terms.{minus, sum}
use Rattle.symbolic_state.specs.Fitting.{FitsTable}
use Rattle.program_nodes.proofs.FormsFit.{numbers_below, terms_below}
use Rattle.symbolic_state.proofs.AddressForms.{address_fits, address_is}
use Rattle.symbolic_state.proofs.LaterTables.{fits_flags, fits_table_later, node_inside}
use Rattle.symbolic_state.proofs.Runs.{Run}
use Rattle.symbolic_values.proofs.RowResults.{agrees_written, arithmetic_row, logic_row, result_row}
use Rattle.symbolic_values.proofs.RowResults.{written}
use Rattle.symbolic_values.proofs.StepRows.{Row, makes, row_on}
use Rattle.symbolic_values.proofs.ZeroRows.{dec_row, inc_row}
use Rattle.symbolic_values.proofs.Words.{borrowed_nought, complemented, negated}

module _ (t : List Node) (y : Symbols) (table : IsTable t) (fits : FitsTable t y) where
  pub lea_row : (dst : Reg) (mem : Mem)
      → Row t y (λ r s. Some (with_reg dst (effective_address s mem) s)) (result_only dst (address_form y mem) t y)
  lea_row dst mem = result_row t y table fits (λ r s. Some (with_reg dst (effective_address s mem) s))
      (address_form y mem)
      (address_fits t y mem fits) tt dst
      (λ r s v a. record { word = effective_address s mem; goes = refl; is = address_is r y s mem a })

  -- ---- TEST

  pub test_row : (a b : Reg) → Row t y (λ r s. Some (with_logic_flags (bit_and (reg s a) (reg s b)) s))
      (logic None (forms.And (node_in y a) (node_in y b)) t y)
  test_row a b = logic_row t y table fits (λ r s. Some (with_logic_flags (bit_and (reg s a) (reg s b)) s))
      (forms.And (node_in y a) (node_in y b)) (node_inside t y fits a, node_inside t y fits b) tt None
      (λ r s v agrees. let e = agrees.registers a in let k = agrees.registers b in record {
        word = bit_and (reg s a) (reg s b);
        out = false;
        overflow = Some false;
        goes = refl;
        is = rw (e, k) refl;
        carries = refl;
        overflows = λ n j. (false, refl, j);
      })

  -- ---- INC, DEC, NEG and NOT

  module _ (dst : Reg) where
    abbrev d : ℕ
    d = node_in y dst

    d_inside : d < length t
    d_inside = node_inside t y fits dst

    -- the machine's step
    abbrev Next : Un → Run → State → Option State
    Next op r s = Some (un_into op dst (reg s dst) s)

    not_row : Row t y (Next Not) (un_step Not dst d t y)
    not_row = result_row t y table fits (Next Not) (forms.Lin (2 ^ 64 - 1) (minus d ∷ []))
        (terms_below (length t) (minus d ∷ []) (d_inside, tt), omega arith) tt dst
        (λ r s v a. let e = a.registers dst in record {
          word = 2 ^ 64 - 1 - reg s dst;
          goes = refl;
          is = rw e (complemented (r.val d) (v.sound.word d d_inside));
        })

    neg_row : Row t y (Next Neg) (un_step Neg dst d t y)
    unfolding neg_step
    neg_row =
        let nought = made t (forms.Const 0) in
        let u = nought.table in
        let m = makes t (forms.Const 0) table (omega arith) tt in
        let longer = prefix_length m.grows.prefix in
        let below = d_inside in
        let inside : d < length u = omega arith in
        row_on t u y (Next Neg) (arithmetic (Some dst) (sum (minus d ∷ [])) (forms.Borrow nought.number (d ∷ [])) u y)
        m.grows
        (arithmetic_row u y m.grows.table (fits_table_later t u m.grows.prefix y fits) (Next Neg) (sum (minus d ∷ []))
        (terms_below (length u) (minus d ∷ []) (inside, tt), omega arith) tt
        (Some dst) (forms.Borrow nought.number (d ∷ []))
        (m.inside, numbers_below (length u) (d ∷ []) (inside, tt), omega arith, omega arith) tt tt
        (λ r s v a. let e = a.registers dst in record {
          word = (2 ^ 64 - reg s dst) % 2 ^ 64;
          out = not (reg s dst == 0);
          overflow = Some (reg s dst == 2 ^ 63);
          goes = refl;
          is = rw e (negated (r.val d) (v.sound.word d inside));
          carries = rw e (borrowed_nought (r.val nought.number) (r.val d) (m.word r v));
          overflows = λ n j. tt;
        }))

    pub un_row : (op : Un) → Row t y (Next op) (un_step op dst d t y)
    un_row Inc = inc_row t y table fits dst
    un_row Dec = dec_row t y table fits dst
    un_row Neg = neg_row
    un_row Not = not_row

  -- ---- CLC

  pub clc_row : Row t y (λ r s. Some (record s { cf = Some false })) (clc_step t y)
  unfolding clc_step
  clc_row =
      let c = made t (forms.Const 0) in
      let m = makes t (forms.Const 0) table (omega arith) tt in
      let later = fits_table_later t c.table m.grows.prefix y fits in
      record {
        grows = m.grows;
        fits = fits_flags c.table y (Some c.number) y.of y.zf
            (record { inside = m.inside; high = made_bit t (forms.Const 0) table (omega arith) (omega arith) })
            later.of later.zf later;
        touch = refl;
        covers = λ r s v a. record {
          next = written None 0 (Some false) s.of s.zf s;
          is = refl;
          agrees = agrees_written r t y s fits a None (r.val 0) 0 refl (Some c.number) y.of y.zf (Some false) s.of s.zf
              (false, refl, m.word r v) a.of a.zf;
        };
      }
