-- Steps that write a register and the zero flag: those of DEC, SHL, SHR and SHRD; and INC, which may leave a known
-- overflow flag.
use Rattle.std.proofs.Common.{◌≡◌, ℕ, ◌+◌, ◌-◌, ◌*◌, ◌/◌, ◌%◌, ◌^◌, ◌<◌, ◌≤◌, ◌==◌, Bool, List, [], ◌∷◌, length, Option}
use Rattle.std.proofs.Common.{Some, None, IfSome, if◌then◌else◌, nat_le, true, false, refl, sym, ap, ◌∙◌, arith}
use Rattle.std.proofs.lemmas.Bool.Decides.{nat_tests}
use Rattle.base.specs.Options.{guard}
use Rattle.x86_instr.specs.declared.operand.Reg.{Reg}
use Rattle.x86_meaning.specs.declared.state.State.{State}
use Rattle.x86_meaning.specs.Machine.{bit, count_into, has_bit, reg, shift_into}
use Rattle.terms.specs.declared.nodes.Node.{Node}
use Rattle.terms.specs.declared.nodes.Form.{Form}
use Rattle.terms.specs.declared.nodes.Form.TheVariants as forms
use Rattle.terms.specs.Tables.{IsTable, node_at}
use Rattle.terms.specs.Forms.{FormFits}
use Rattle.terms.specs.Meaning.{form_value}
use Rattle.term_store.specs.Interning.{made}
use Rattle.term_store.proofs.Made.{made_bit}
use Rattle.term_store.proofs.Prefixes.{prefix_length}
use Rattle.program_nodes.specs.Terms.{plus, sum, term}
use Rattle.program_nodes.specs.Operands.{IsBit}
use Rattle.program_nodes.proofs.FormsFit.{one_fits}
use Rattle.symbolic_state.specs.Symbols.{Symbols, node_in, with_node}
use Rattle.symbolic_state.specs.Fitting.{FitsTable}
use Rattle.symbolic_state.specs.Agreeing.{FlagAgrees}
use Rattle.symbolic_values.specs.Steps.{bit_node, inc_step, result_and_overflow, result_and_zero, shl_step}
use Rattle.symbolic_values.specs.Steps.{shr_step}
use Rattle.symbolic_state.proofs.LaterTables.{fits_flags, fits_node, fits_table_later, node_inside}
use Rattle.symbolic_state.proofs.Runs.{Run, Agreed, Valued, start_in}
use Rattle.symbolic_state.proofs.Runs.{valued_front}
use Rattle.symbolic_values.proofs.RowResults.{agrees_written, written}
use Rattle.symbolic_values.proofs.StepRows.{IsPlain, Row, grows_on, makes}

-- ---- a result and the zero flag

-- in a state from which the machine goes on: the word of the result, and the flags beside it
pub record Counts (r : Run) (dst : Reg) (result : Form) (cf : Option ℕ) (s : State) (o : Option State) : Type 0 where
  pub word : ℕ
  pub c : Option Bool
  pub v : Option Bool
  pub goes : o ≡ Some (written (Some dst) word c v (Some (word == 0)) s)
  pub is : form_value (start_in r) r.val result ≡ word
  pub carries : FlagAgrees r.val cf c

module _ (t : List Node) (y : Symbols) (table : IsTable t) (fits : FitsTable t y) (next : Run → State → Option State)
    (dst : Reg) (result : Form) (fit : FormFits t result) (plain : IsPlain result) where
  pub zero_row : (cf : Option ℕ) → IfSome cf (IsBit t)
      → ((u : List Node) → FitsTable u y → IfSome cf (IsBit u))
      → ((r : Run) (s : State) → Valued r t → Agreed r y s → Counts r dst result cf s (next r s))
      → Row t y next (result_and_zero cf dst result t y)
  unfolding result_and_zero
  zero_row cf bit bit_later goes =
      let a = made t result in
      let z = made a.table (forms.Zero a.number) in
      let ma = makes t result table fit plain in
      let mz = makes a.table (forms.Zero a.number) ma.grows.table ma.inside tt in
      let longer = prefix_length mz.grows.prefix in
      let inside = ma.inside in
      let here : a.number < length z.table = omega arith in
      let grows = grows_on t a.table z.table ma.grows mz.grows in
      let later = fits_table_later t z.table grows.prefix y fits in
      record {
        grows = grows;
        fits = fits_flags z.table (with_node dst a.number y) cf None (Some z.number) (bit_later z.table later) tt
            (record { inside = mz.inside; high = made_bit a.table (forms.Zero a.number) ma.grows.table ma.inside tt })
            (fits_node z.table y dst a.number here later);
        touch = refl;
        covers = λ r s v agrees.
            let va = valued_front r a.table z.table mz.grows.prefix v in
            let g = goes r s (valued_front r t z.table grows.prefix v) agrees in
            let word : r.val a.number ≡ g.word = ma.word r va ∙ g.is in
            record {
              next = written (Some dst) g.word g.c g.v (Some (g.word == 0)) s;
              is = g.goes;
              agrees = agrees_written r t y s fits agrees (Some dst) g.word a.number (sym word) cf None
                  (Some z.number) g.c g.v (Some (g.word == 0)) g.carries tt
                  (g.word == 0, refl, mz.word r v ∙ ap (λ n. if n == 0 then 1 else 0) word);
            };
      }

-- ---- words

decremented : (d : ℕ) → (2 ^ 64 - 1 + (1 * d + 0)) % 2 ^ 64 ≡ (d + 2 ^ 64 - 1) % 2 ^ 64
decremented d = omega arith

incremented : (d : ℕ) → (1 + (1 * d + 0)) % 2 ^ 64 ≡ (d + 1) % 2 ^ 64
incremented d = omega arith

-- where it is a bit, it is whether d is 2^63 - 1
overflow_bit : (d b : ℕ) → d < 2 ^ 64 → b ≡ (2 ^ 63 + 2 + (1 * d + 0)) % 2 ^ 64 → b ≤ 1
    → b ≡ bit (d == 2 ^ 63 - 1)
overflow_bit d b h e k = grind (arith, nat_tests)

pub left_word : (d k : ℕ) → (0 + (2 ^ k * d + 0)) % 2 ^ 64 ≡ d * 2 ^ k % 2 ^ 64
left_word d k = let e : 0 + (2 ^ k * d + 0) ≡ d * 2 ^ k = omega arith in ap (λ n. n % 2 ^ 64) e

module _ (t : List Node) (y : Symbols) (table : IsTable t) (fits : FitsTable t y) (dst : Reg) where
  abbrev d : ℕ
  d = node_in y dst

  d_inside : d < length t
  d_inside = node_inside t y fits dst

  -- ---- DEC and INC

  abbrev Next_dec : Run → State → Option State
  Next_dec r s = Some (count_into dst ((reg s dst + 2 ^ 64 - 1) % 2 ^ 64) (reg s dst == 2 ^ 63) s)

  pub dec_row : Row t y Next_dec (result_and_zero y.cf dst (forms.Lin (2 ^ 64 - 1) (plus d ∷ [])) t y)
  dec_row = zero_row t y table fits Next_dec dst (forms.Lin (2 ^ 64 - 1) (plus d ∷ []))
      (one_fits t (2 ^ 64 - 1) (plus d) d_inside) tt y.cf fits.cf (λ u later. later.cf)
      (λ r s v a. let e = a.registers dst in record {
        word = (reg s dst + 2 ^ 64 - 1) % 2 ^ 64;
        c = s.cf;
        v = Some (reg s dst == 2 ^ 63);
        goes = refl;
        is = rw e (decremented (r.val d));
        carries = a.cf;
      })

  abbrev Next_inc : Run → State → Option State
  Next_inc r s = Some (count_into dst ((reg s dst + 1) % 2 ^ 64) (reg s dst == 2 ^ 63 - 1) s)

  -- a node that was found to be a bit
  bit_fits : (u : List Node) (n : ℕ) → n < length u → IfSome (bit_node u n) (IsBit u)
  bit_fits u n h = by_test (nat_le (node_at u n).high 1) refl where
    by_test : (b : Bool) → nat_le (node_at u n).high 1 ≡ b → IfSome (guard b n) (IsBit u)
    by_test true e = record { inside = h; high = grind (arith, nat_tests) }
    by_test false e = tt

  bit_agrees : (r : Run) (u : List Node) (n w : ℕ) → n < length u → Valued r u → w < 2 ^ 64
      → r.val n ≡ (2 ^ 63 + 2 + (1 * w + 0)) % 2 ^ 64
      → FlagAgrees r.val (bit_node u n) (Some (w == 2 ^ 63 - 1))
  bit_agrees r u n w h v small e = by_test (nat_le (node_at u n).high 1) refl where
    by_test : (b : Bool) → nat_le (node_at u n).high 1 ≡ b → FlagAgrees r.val (guard b n) (Some (w == 2 ^ 63 - 1))
    by_test true f =
        let high : (node_at u n).high ≤ 1 = grind (arith, nat_tests) in
        let below = v.sound.below n h in
        let low : r.val n ≤ 1 = omega arith in
        (w == 2 ^ 63 - 1, refl, overflow_bit w (r.val n) small e low)
    by_test false f = tt

  pub inc_row : Row t y Next_inc (inc_step dst d t y)
  unfolding result_and_overflow
  inc_row =
      let a = made t (forms.Lin 1 (plus d ∷ [])) in
      let o = made a.table (forms.Lin (2 ^ 63 + 2) (plus d ∷ [])) in
      let z = made o.table (forms.Zero a.number) in
      let ma = makes t (forms.Lin 1 (plus d ∷ [])) table (one_fits t 1 (plus d) d_inside) tt in
      let longer = prefix_length ma.grows.prefix in
      let below = d_inside in
      let d_later : d < length a.table = omega arith in
      let mo = makes a.table (forms.Lin (2 ^ 63 + 2) (plus d ∷ [])) ma.grows.table
      (one_fits a.table (2 ^ 63 + 2) (plus d) d_later) tt in
      let longer_o = prefix_length mo.grows.prefix in
      let inside = ma.inside in
      let a_later : a.number < length o.table = omega arith in
      let mz = makes o.table (forms.Zero a.number) mo.grows.table a_later tt in
      let longer_z = prefix_length mz.grows.prefix in
      let inside_o = mo.inside in
      let here : a.number < length z.table = omega arith in
      let there : o.number < length z.table = omega arith in
      let grows = grows_on t a.table z.table ma.grows (grows_on a.table o.table z.table mo.grows mz.grows) in
      let later = fits_table_later t z.table grows.prefix y fits in
      record {
        grows = grows;
        fits = fits_flags z.table (with_node dst a.number y) y.cf (bit_node z.table o.number) (Some z.number) later.cf
            (bit_fits z.table o.number there)
            (record { inside = mz.inside; high = made_bit o.table (forms.Zero a.number) mo.grows.table a_later tt })
            (fits_node z.table y dst a.number here later);
        touch = refl;
        covers = λ r s v agrees.
            let vo = valued_front r o.table z.table mz.grows.prefix v in
            let va = valued_front r a.table o.table mo.grows.prefix vo in
            let vt = valued_front r t z.table grows.prefix v in
            let e = agrees.registers dst in
            let n = (reg s dst + 1) % 2 ^ 64 in
            let word : r.val a.number ≡ n = ma.word r va ∙ rw e (incremented (r.val d)) in
            let small : reg s dst < 2 ^ 64 = rw e (vt.sound.word d d_inside) in
            let bit : r.val o.number ≡ (2 ^ 63 + 2 + (1 * reg s dst + 0)) % 2 ^ 64 = rw e (mo.word r vo) in
            record {
              next = written (Some dst) n s.cf (Some (reg s dst == 2 ^ 63 - 1)) (Some (n == 0)) s;
              is = refl;
              agrees = agrees_written r t y s fits agrees (Some dst) n a.number (sym word) y.cf
                  (bit_node z.table o.number) (Some z.number) s.cf (Some (reg s dst == 2 ^ 63 - 1)) (Some (n == 0))
                  agrees.cf (bit_agrees r z.table o.number (reg s dst) there v small bit)
                  (n == 0, refl, mz.word r v ∙ ap (λ k. if k == 0 then 1 else 0) word);
            };
      }

  -- ---- SHL, SHR and SHRD

  pub shl_row : (k : ℕ) → Row t y
      (λ r s. Some (shift_into dst (reg s dst * 2 ^ k % 2 ^ 64) (has_bit (reg s dst) (64 - k)) s))
      (shl_step dst d k t y)
  shl_row k = zero_row t y table fits
      (λ r s. Some (shift_into dst (reg s dst * 2 ^ k % 2 ^ 64) (has_bit (reg s dst) (64 - k)) s)) dst
      (sum (term (2 ^ k) d ∷ [])) (one_fits t 0 (term (2 ^ k) d) d_inside) tt None tt (λ u later. tt)
      (λ r s v a. let e = a.registers dst in record {
        word = reg s dst * 2 ^ k % 2 ^ 64;
        c = Some (has_bit (reg s dst) (64 - k));
        v = None;
        goes = refl;
        is = rw e (left_word (r.val d) k);
        carries = tt;
      })

  module _ (k : ℕ) (least : 1 ≤ k) (most : k ≤ 63) where
    pub shr_row : Row t y (λ r s. Some (shift_into dst (reg s dst / 2 ^ k) (has_bit (reg s dst) (k - 1)) s))
        (shr_step dst d k t y)
    shr_row = zero_row t y table fits
        (λ r s. Some (shift_into dst (reg s dst / 2 ^ k) (has_bit (reg s dst) (k - 1)) s)) dst
        (forms.Shr d k) (d_inside, least, most) tt None tt (λ u later. tt)
        (λ r s v a. let e = a.registers dst in record {
          word = reg s dst / 2 ^ k;
          c = Some (has_bit (reg s dst) (k - 1));
          v = None;
          goes = refl;
          is = rw e refl;
          carries = tt;
        })
