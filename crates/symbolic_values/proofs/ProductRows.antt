-- The rows of MULX, MUL and IMUL.
use Rattle.std.proofs.Common.{◌≡◌, ℕ, ◌*◌, ◌/◌, ◌%◌, ◌^◌, ◌<◌, ◌==◌, not, List, length, Some, None, refl, sym, ap}
use Rattle.std.proofs.Common.{◌∙◌, arith}
use Rattle.x86_instr.specs.declared.operand.Reg.{Reg}
use Rattle.x86_instr.specs.declared.operand.Reg.TheVariants.{Rax, Rdx}
use Rattle.x86_meaning.specs.Machine.{imul_into, mul_into, mulx_into, reg}
use Rattle.terms.specs.declared.nodes.Node.{Node}
use Rattle.terms.specs.declared.nodes.Form.TheVariants as forms
use Rattle.terms.specs.Tables.{IsTable}
use Rattle.term_store.specs.Interning.{Interned, made}
use Rattle.term_store.proofs.Prefixes.{prefix_length}
use Rattle.symbolic_state.specs.Symbols.{Symbols, node_in, with_node}
use Rattle.symbolic_state.specs.Fitting.{FitsTable}
use Rattle.symbolic_values.specs.Steps.{imul_step, mul_step, mulx_step}
use Rattle.symbolic_state.proofs.LaterTables.{fits_flags, fits_node, fits_table_later, node_inside}
use Rattle.symbolic_state.proofs.Runs.{Run, Valued, valued_front}
use Rattle.symbolic_values.proofs.RowResults.{agrees_written, written}
use Rattle.symbolic_values.proofs.StepRows.{Grows, Row, grows_on, makes}

module _ (t : List Node) (y : Symbols) (table : IsTable t) (fits : FitsTable t y) (s : ℕ) (inside : s < length t) where
  -- ---- both words of a product

  module _ (q : Reg) where
    abbrev d : ℕ
    d = node_in y q

    abbrev low : Interned
    low = made t (forms.MulLo d s)

    abbrev high : Interned
    high = made low.table (forms.MulHi d s)

    record Product : Type 1 where
      grows : Grows t high.table
      low_inside : low.number < length high.table
      high_inside : high.number < length high.table
      later : FitsTable high.table y
      low_word : (r : Run) → Valued r high.table → r.val low.number ≡ r.val d * r.val s % 2 ^ 64
      high_word : (r : Run) → Valued r high.table → r.val high.number ≡ r.val d * r.val s / 2 ^ 64

    product : Product
    product =
        let d_inside = node_inside t y fits q in
        let a = makes t (forms.MulLo d s) table (d_inside, inside) tt in
        let longer = prefix_length a.grows.prefix in
        let d_later : d < length low.table = omega arith in
        let s_later : s < length low.table = omega arith in
        let b = makes low.table (forms.MulHi d s) a.grows.table (d_later, s_later) tt in
        let last = prefix_length b.grows.prefix in
        let there = a.inside in
        let grows = grows_on t low.table high.table a.grows b.grows in
        record {
          grows = grows;
          low_inside = omega arith;
          high_inside = b.inside;
          later = fits_table_later t high.table grows.prefix y fits;
          low_word = λ r v. a.word r (valued_front r low.table high.table b.grows.prefix v);
          high_word = λ r v. b.word r v;
        }

  -- ---- MULX

  pub mulx_row : (hi lo : Reg)
      → Row t y (λ r st. Some (mulx_into hi lo (reg st Rdx * r.val s) st)) (mulx_step hi lo (node_in y Rdx) s t y)
  unfolding mulx_step
  mulx_row hi lo =
      let p = product Rdx in
      let u = (high Rdx).table in
      let first = with_node lo (low Rdx).number y in
      let first_fits = fits_node u y lo (low Rdx).number p.low_inside p.later in
      record {
        grows = p.grows;
        fits = fits_node u first hi (high Rdx).number p.high_inside first_fits;
        touch = refl;
        covers = λ r st v a.
            let n = reg st Rdx * r.val s in
            let e : r.val (node_in y Rdx) * r.val s ≡ n = ap (λ m. m * r.val s) (sym (a.registers Rdx)) in
            let half = written (Some lo) (n % 2 ^ 64) st.cf st.of st.zf st in
            let halfway = agrees_written r t y st fits a (Some lo) (n % 2 ^ 64) (low Rdx).number
            (sym (p.low_word r v ∙ ap (λ m. m % 2 ^ 64) e)) y.cf y.of y.zf st.cf st.of st.zf a.cf a.of a.zf in
            record {
              next = written (Some hi) (n / 2 ^ 64) st.cf st.of st.zf half;
              is = refl;
              agrees = agrees_written r u first half first_fits halfway (Some hi) (n / 2 ^ 64) (high Rdx).number
                  (sym (p.high_word r v ∙ ap (λ m. m / 2 ^ 64) e)) y.cf y.of y.zf st.cf st.of st.zf a.cf a.of a.zf;
            };
      }

  -- ---- MUL

  pub mul_row : Row t y (λ r st. Some (mul_into (reg st Rax * r.val s) st)) (mul_step (node_in y Rax) s t y)
  unfolding mul_step
  mul_row =
      let p = product Rax in
      let u = (high Rax).table in
      let first = with_node Rdx (high Rax).number y in
      let first_fits = fits_node u y Rdx (high Rax).number p.high_inside p.later in
      record {
        grows = p.grows;
        fits = fits_flags u (with_node Rax (low Rax).number first) None None None tt tt tt
            (fits_node u first Rax (low Rax).number p.low_inside first_fits);
        touch = refl;
        covers = λ r st v a.
            let n = reg st Rax * r.val s in
            let e : r.val (node_in y Rax) * r.val s ≡ n = ap (λ m. m * r.val s) (sym (a.registers Rax)) in
            let half = written (Some Rdx) (n / 2 ^ 64) st.cf st.of st.zf st in
            let halfway = agrees_written r t y st fits a (Some Rdx) (n / 2 ^ 64) (high Rax).number
            (sym (p.high_word r v ∙ ap (λ m. m / 2 ^ 64) e)) y.cf y.of y.zf st.cf st.of st.zf a.cf a.of a.zf in
            let over = Some (not (n / 2 ^ 64 == 0)) in
            record {
              next = written (Some Rax) (n % 2 ^ 64) over over None half;
              is = refl;
              agrees = agrees_written r u first half first_fits halfway (Some Rax) (n % 2 ^ 64) (low Rax).number
                  (sym (p.low_word r v ∙ ap (λ m. m % 2 ^ 64) e)) None None None over over None tt tt tt;
            };
      }

  -- ---- IMUL

  pub imul_row : (dst : Reg)
      → Row t y (λ r st. Some (imul_into dst (reg st dst * r.val s) st)) (imul_step dst (node_in y dst) s t y)
  unfolding imul_step
  imul_row dst =
      let q = node_in y dst in
      let l = made t (forms.MulLo q s) in
      let m = makes t (forms.MulLo q s) table (node_inside t y fits dst, inside) tt in
      record {
        grows = m.grows;
        fits = fits_flags l.table (with_node dst l.number y) None None None tt tt tt
            (fits_node l.table y dst l.number m.inside (fits_table_later t l.table m.grows.prefix y fits));
        touch = refl;
        covers = λ r st v a.
            let n = reg st dst * r.val s in
            let e : r.val q * r.val s ≡ n = ap (λ k. k * r.val s) (sym (a.registers dst)) in
            record {
              next = written (Some dst) (n % 2 ^ 64) None None None st;
              is = refl;
              agrees = agrees_written r t y st fits a (Some dst) (n % 2 ^ 64) l.number
                  (sym (m.word r v ∙ ap (λ k. k % 2 ^ 64) e)) None None None None None None tt tt tt;
            };
      }
