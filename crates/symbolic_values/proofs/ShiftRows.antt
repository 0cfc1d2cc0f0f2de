-- The rows of SHRD, SHLX and SHRX.
use Rattle.std.proofs.Common.{◌≡◌, ℕ, ◌+◌, ◌-◌, ◌*◌, ◌/◌, ◌%◌, ◌^◌, ◌<◌, ◌≤◌, ◌==◌, Bool, true, false, List, [], ◌∷◌}
use Rattle.std.proofs.Common.{length, Option, Some, None, if◌then◌else◌, refl, ◌∙◌, arith}
use Rattle.std.proofs.lemmas.Bool.Decides.{nat_tests}
use Rattle.base.specs.Options.{pick}
use Rattle.word_operations.specs.declared.kind.Kind.TheVariants.{Shrd}
use Rattle.word_operations.proofs.ResultLemmas as results
use Rattle.x86_instr.specs.declared.operand.Reg.{Reg}
use Rattle.x86_meaning.specs.declared.state.State.{State}
use Rattle.x86_meaning.specs.Machine.{funnel, has_bit, reg, shift_into, with_reg}
use Rattle.terms.specs.declared.nodes.Node.{Node}
use Rattle.terms.specs.declared.nodes.Form.TheVariants as forms
use Rattle.terms.specs.Tables.{IsTable}
use Rattle.terms.specs.Rules.{constant_at}
use Rattle.terms.proofs.ConstantValues.{const_value}
use Rattle.term_store.specs.Interning.{Interned, made}
use Rattle.term_store.proofs.Prefixes.{prefix_length}
use Rattle.program_nodes.specs.Terms.{plus, sum, term}
use Rattle.program_nodes.proofs.FormsFit.{one_fits, two_fit}
use Rattle.symbolic_state.specs.Symbols.{Symbols, node_in, with_node}
use Rattle.symbolic_state.specs.Fitting.{FitsTable}
use Rattle.symbolic_values.specs.Steps.{Step, goes, on_count, result_and_zero, result_only, shifted_right, shlx_step}
use Rattle.symbolic_values.specs.Steps.{shrd_step, shrx_step, stuck, sum_of_two}
use Rattle.symbolic_state.proofs.LaterTables.{fits_table_later, fits_write, node_inside}
use Rattle.symbolic_state.proofs.Runs.{Run, Agreed, Valued}
use Rattle.symbolic_state.proofs.Runs.{start_in, valued_front}
use Rattle.symbolic_values.proofs.RowResults.{agrees_written, result_row, written}
use Rattle.symbolic_values.proofs.StepRows.{Row, grows_not, grows_on, makes, row_on}
use Rattle.symbolic_values.proofs.StepRows.{stuck_row}
use Rattle.symbolic_values.proofs.ZeroRows.{left_word, zero_row}

-- ---- a node that is there

pub move_row : (t : List Node) (y : Symbols) (dst : Reg) (n : ℕ) → n < length t → IsTable t → FitsTable t y
    → Row t y (λ r s. Some (with_reg dst (r.val n) s)) (goes t (with_node dst n y))
move_row t y dst n inside table fits = record {
  grows = grows_not t table;
  fits = fits_write t y (Some dst) n inside fits;
  touch = refl;
  covers = λ r s v a. record {
    next = written (Some dst) (r.val n) s.cf s.of s.zf s;
    is = refl;
    agrees = agrees_written r t y s fits a (Some dst) (r.val n) n refl y.cf y.of y.zf s.cf s.of s.zf a.cf a.of a.zf;
  };
}

-- ---- SHRD

-- what is left of the low word and what moves in from the high one, added up
funneled : (lo hi k low high : ℕ) → lo < 2 ^ 64 → hi < 2 ^ 64 → low ≡ lo / 2 ^ k
    → high ≡ (0 + (2 ^ (64 - k) * hi + 0)) % 2 ^ 64
    → (0 + (1 * low + (1 * high + 0))) % 2 ^ 64 ≡ funnel lo hi k
funneled lo hi k low high h g e f =
    let word : lo / 2 ^ k + (hi * 2 ^ (64 - k)) % 2 ^ 64 < 2 ^ 64 =
    (results.words (Shrd k) lo hi 0 (h, (g, (omega arith, tt)))).0 in
    let moved : high ≡ hi * 2 ^ (64 - k) % 2 ^ 64 = f ∙ left_word hi (64 - k) in
    omega (arith, e, moved, word)

module _ (t : List Node) (y : Symbols) (table : IsTable t) (fits : FitsTable t y) (dst src : Reg) (k : ℕ)
    (least : 1 ≤ k) (most : k ≤ 63) where
  abbrev lo : ℕ
  lo = node_in y dst

  abbrev hi : ℕ
  hi = node_in y src

  abbrev low : Interned
  low = made t (forms.Shr lo k)

  abbrev high : Interned
  high = made low.table (sum (term (2 ^ (64 - k)) hi ∷ []))

  abbrev Next_shrd : Run → State → Option State
  Next_shrd r s = Some (shift_into dst (funnel (reg s dst) (reg s src) k) (has_bit (reg s dst) (k - 1)) s)

  pub shrd_row : Row t y Next_shrd (shrd_step dst lo hi k t y)
  unfolding sum_of_two
  shrd_row =
      let lo_inside = node_inside t y fits dst in
      let hi_inside = node_inside t y fits src in
      let ml = makes t (forms.Shr lo k) table (lo_inside, least, most) tt in
      let longer = prefix_length ml.grows.prefix in
      let hi_later : hi < length low.table = omega arith in
      let mh = makes low.table (sum (term (2 ^ (64 - k)) hi ∷ [])) ml.grows.table
      (one_fits low.table 0 (term (2 ^ (64 - k)) hi) hi_later) tt in
      let last = prefix_length mh.grows.prefix in
      let there = ml.inside in
      let low_inside : low.number < length high.table = omega arith in
      let before = grows_on t low.table high.table ml.grows mh.grows in
      let result = sum (plus low.number ∷ plus high.number ∷ []) in
      row_on t high.table y Next_shrd (result_and_zero None dst result high.table y) before
      (zero_row high.table y mh.grows.table (fits_table_later t high.table before.prefix y fits) Next_shrd dst result
      (two_fit high.table 0 (plus low.number) (plus high.number) low_inside mh.inside) tt None tt (λ u later. tt)
      (λ r s v a.
      let front = valued_front r t high.table before.prefix v in
      let e = a.registers dst in
      let f = a.registers src in
      record {
        word = funnel (reg s dst) (reg s src) k;
        c = Some (has_bit (reg s dst) (k - 1));
        v = None;
        goes = refl;
        is = rw (e, f) (funneled (r.val lo) (r.val hi) k (r.val low.number) (r.val high.number)
            (front.sound.word lo lo_inside) (front.sound.word hi hi_inside)
            (ml.word r (valued_front r low.table high.table mh.grows.prefix v)) (mh.word r v));
        carries = tt;
      }))

-- ---- SHLX and SHRX

module _ (t : List Node) (y : Symbols) (table : IsTable t) (fits : FitsTable t y) (dst count : Reg) (s : ℕ)
    (inside : s < length t) where
  abbrev c : ℕ
  c = node_in y count

  -- a step on the count's constant
  on_constant : (next : Run → State → Option State) (rest : ℕ → List Node → Symbols → Step)
      → ((v : ℕ) → constant_at t c ≡ Some v → Row t y next (rest (v % 64) t y))
      → Row t y next (on_count c rest t y)
  on_constant next rest f = by_constant (constant_at t c) refl where
    by_constant : (o : Option ℕ) → constant_at t c ≡ o
        → Row t y next (pick o (λ k. rest (k % 64) t y) (stuck t))
    by_constant None e = stuck_row t y next table
    by_constant (Some v) e = f v e

  -- the machine's count
  count_word : (v : ℕ) → constant_at t c ≡ Some v → (r : Run) (st : State) → Valued r t → Agreed r y st
      → reg st count ≡ v
  count_word v e r st valued a = a.registers count
      ∙ const_value (start_in r) r.val t valued.is valued.sound c v (node_inside t y fits count) e

  abbrev Next_shlx : Run → State → Option State
  Next_shlx r st = Some (with_reg dst (r.val s * 2 ^ (reg st count % 64) % 2 ^ 64) st)

  pub shlx_row : Row t y Next_shlx (shlx_step dst c s t y)
  shlx_row = on_constant Next_shlx (λ k. result_only dst (sum (term (2 ^ k) s ∷ []))) (λ v e.
      result_row t y table fits Next_shlx (sum (term (2 ^ (v % 64)) s ∷ []))
      (one_fits t 0 (term (2 ^ (v % 64)) s) inside) tt dst
      (λ r st valued a.
      let is = count_word v e r st valued a in record {
        word = r.val s * 2 ^ (reg st count % 64) % 2 ^ 64;
        goes = refl;
        is = rw is (left_word (r.val s) (v % 64));
      }))

  abbrev Next_shrx : Run → State → Option State
  Next_shrx r st = Some (with_reg dst (r.val s / 2 ^ (reg st count % 64)) st)

  shrx_by : (v : ℕ) → constant_at t c ≡ Some v → (b : Bool) → (v % 64 == 0) ≡ b
      → Row t y Next_shrx (if b then goes t (with_node dst s y) else result_only dst (forms.Shr s (v % 64)) t y)
  shrx_by v e true z = let nought : v % 64 ≡ 0 = grind (arith, nat_tests) in record {
    grows = grows_not t table;
    fits = fits_write t y (Some dst) s inside fits;
    touch = refl;
    covers = λ r st valued a.
        let is = count_word v e r st valued a in
        let same : r.val s / 2 ^ (reg st count % 64) ≡ r.val s = rw (is, nought) (omega arith) in
        record {
          next = written (Some dst) (r.val s / 2 ^ (reg st count % 64)) st.cf st.of st.zf st;
          is = refl;
          agrees = agrees_written r t y st fits a (Some dst) (r.val s / 2 ^ (reg st count % 64)) s same y.cf y.of y.zf
              st.cf st.of st.zf a.cf a.of a.zf;
        };
  }
  shrx_by v e false z =
      let some : 1 ≤ v % 64 = grind (arith, nat_tests) in
      let few : v % 64 ≤ 63 = omega arith in
      result_row t y table fits Next_shrx (forms.Shr s (v % 64)) (inside, some, few) tt dst
      (λ r st valued a. let is = count_word v e r st valued a in record {
        word = r.val s / 2 ^ (reg st count % 64);
        goes = refl;
        is = rw is refl;
      })

  pub shrx_row : Row t y Next_shrx (shrx_step dst c s t y)
  unfolding shifted_right
  shrx_row = on_constant Next_shrx (shifted_right dst s) (λ v e. shrx_by v e (v % 64 == 0) refl)
