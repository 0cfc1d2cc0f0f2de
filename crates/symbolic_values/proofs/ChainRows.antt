-- The rows of ADCX and ADOX: a sum whose carry goes to one flag alone.
use Rattle.std.proofs.Common.{◌≡◌, ℕ, ◌+◌, ◌%◌, ◌^◌, ◌<◌, Bool, List, [], ◌∷◌, length, nat_le, Option, Some}
use Rattle.std.proofs.Common.{IfSome, option_map, refl, sym, ap, ◌∙◌, subst, arith}
use Rattle.x86_instr.specs.declared.operand.Reg.{Reg}
use Rattle.x86_meaning.specs.declared.state.State.{State}
use Rattle.x86_meaning.specs.Machine.{adcx_into, adox_into, bit, reg}
use Rattle.terms.specs.declared.nodes.Node.{Node}
use Rattle.terms.specs.declared.nodes.Form.{Form}
use Rattle.terms.specs.declared.nodes.Form.TheVariants as forms
use Rattle.terms.specs.Tables.{IsTable}
use Rattle.terms.specs.Forms.{FormFits}
use Rattle.terms.specs.Meaning.{form_value}
use Rattle.term_store.specs.Interning.{made}
use Rattle.term_store.proofs.Made.{IsBitForm, made_bit}
use Rattle.term_store.proofs.Prefixes.{fits_later, prefix_length}
use Rattle.program_nodes.specs.Terms.{plus, sum}
use Rattle.program_nodes.specs.Operands.{IsBit}
use Rattle.program_nodes.proofs.FormsFit.{carry_last_fits, terms_below}
use Rattle.symbolic_state.specs.Symbols.{Symbols, node_in, with_cf, with_flags, with_node, with_of}
use Rattle.symbolic_state.specs.Fitting.{FitsTable}
use Rattle.symbolic_state.specs.Agreeing.{FlagAgrees}
use Rattle.symbolic_values.specs.Steps.{Step, adcx_step, adox_step, chained, goes}
use Rattle.symbolic_state.proofs.LaterTables.{fits_flags, fits_node, fits_table_later, node_inside}
use Rattle.symbolic_state.proofs.Runs.{Run, Agreed, Valued, start_in}
use Rattle.symbolic_state.proofs.Runs.{valued_front}
use Rattle.symbolic_values.proofs.RowResults.{agrees_written, written}
use Rattle.symbolic_values.proofs.StepRows.{IsPlain, Row, flag_row, grows_on, makes}
use Rattle.symbolic_values.proofs.Words.{added_with, bit_small, carried}

-- what a known flag says in a run
pub record IsFlag (r : Run) (c : ℕ) (flag : Option Bool) : Type 0 where
  pub value : Bool
  pub defined : flag ≡ Some value
  pub word : r.val c ≡ bit value

pub flag_known : (r : Run) (known : Option ℕ) (flag : Option Bool) (c : ℕ) → known ≡ Some c
    → FlagAgrees r.val known flag → IsFlag r c flag
flag_known r known flag c e agrees = let f = subst (λ k. FlagAgrees r.val k flag) e agrees in
    record { value = f.0; defined = f.1; word = f.2 }

pub flag_bit : (t : List Node) (known : Option ℕ) (c : ℕ) → known ≡ Some c → IfSome known (IsBit t) → IsBit t c
flag_bit t known c e bit = subst (λ k. IfSome k (IsBit t)) e bit

-- ---- a result and its carry

-- in a state from which the machine goes on: the words of the result and of its carry
record Chains (r : Run) (dst : Reg) (result carry : Form) (cf of : ℕ → Option ℕ) (s : State) (o : Option State)
    : Type 0 where
  word : ℕ
  out : Bool
  c : Option Bool
  v : Option Bool
  goes : o ≡ Some (written (Some dst) word c v s.zf s)
  is : form_value (start_in r) r.val result ≡ word
  carries : form_value (start_in r) r.val carry ≡ bit out
  cf_agrees : (n : ℕ) → r.val n ≡ bit out → FlagAgrees r.val (cf n) c
  of_agrees : (n : ℕ) → r.val n ≡ bit out → FlagAgrees r.val (of n) v

module _ (t : List Node) (y : Symbols) (table : IsTable t) (fits : FitsTable t y) (next : Run → State → Option State)
    (dst : Reg) (result carry : Form) (fit : FormFits t result) (fit_carry : FormFits t carry) (plain : IsPlain result)
    (plain_carry : IsPlain carry) (bits : IsBitForm carry) where
  -- the carry and the overflow flag follow from the carry
  abbrev chained_by : (ℕ → Option ℕ) → (ℕ → Option ℕ) → Step
  chained_by cf of = let r = made t result in let c = made r.table carry in
      goes c.table (with_flags (cf c.number) (of c.number) y.zf (with_node dst r.number y))

  chained_row : (cf of : ℕ → Option ℕ)
      → ((u : List Node) (n : ℕ) → IsBit u n → FitsTable u y → IfSome (cf n) (IsBit u))
      → ((u : List Node) (n : ℕ) → IsBit u n → FitsTable u y → IfSome (of n) (IsBit u))
      → ((r : Run) (s : State) → Valued r t → Agreed r y s → Chains r dst result carry cf of s (next r s))
      → Row t y next (chained_by cf of)
  chained_row cf of cf_bit of_bit goes =
      let a = made t result in
      let b = made a.table carry in
      let ma = makes t result table fit plain in
      let fit_b = fits_later carry ma.grows.prefix fit_carry in
      let mb = makes a.table carry ma.grows.table fit_b plain_carry in
      let longer = prefix_length mb.grows.prefix in
      let inside = ma.inside in
      let here : a.number < length b.table = omega arith in
      let grows = grows_on t a.table b.table ma.grows mb.grows in
      let later = fits_table_later t b.table grows.prefix y fits in
      let is_bit : IsBit b.table b.number =
      record { inside = mb.inside; high = made_bit a.table carry ma.grows.table fit_b bits } in
      record {
        grows = grows;
        fits = fits_flags b.table (with_node dst a.number y) (cf b.number) (of b.number) y.zf
            (cf_bit b.table b.number is_bit later) (of_bit b.table b.number is_bit later) later.zf
            (fits_node b.table y dst a.number here later);
        touch = refl;
        covers = λ r s v agrees.
            let va = valued_front r a.table b.table mb.grows.prefix v in
            let g = goes r s (valued_front r t b.table grows.prefix v) agrees in
            let carries : r.val b.number ≡ bit g.out = mb.word r v ∙ g.carries in
            record {
              next = written (Some dst) g.word g.c g.v s.zf s;
              is = g.goes;
              agrees = agrees_written r t y s fits agrees (Some dst) g.word a.number (sym (ma.word r va ∙ g.is))
                  (cf b.number) (of b.number) y.zf g.c g.v s.zf (g.cf_agrees b.number carries)
                  (g.of_agrees b.number carries) agrees.zf;
            };
      }

-- ---- ADCX and ADOX

module _ (dst : Reg) (t : List Node) (y : Symbols) (table : IsTable t) (fits : FitsTable t y) (s : ℕ)
    (inside : s < length t) where
  abbrev d : ℕ
  d = node_in y dst

  d_inside : d < length t
  d_inside = node_inside t y fits dst

  abbrev chain_sum : ℕ → Form
  chain_sum c = sum (plus d ∷ plus s ∷ plus c ∷ [])

  abbrev chain_carry : ℕ → Form
  chain_carry c = forms.Carry (d ∷ s ∷ c ∷ [])

  sum_fits : (c : ℕ) → IsBit t c → FormFits t (chain_sum c)
  sum_fits c b = (
    terms_below (length t) (plus d ∷ plus s ∷ plus c ∷ []) (d_inside, (inside, (b.inside, tt))),
    omega arith,
  )

  carry_fits : (c : ℕ) → IsBit t c → FormFits t (chain_carry c)
  carry_fits c b = carry_last_fits t d s c d_inside inside b.inside b.high

  abbrev Next_adcx : Run → State → Option State
  Next_adcx r st = option_map (λ carry. adcx_into dst (r.val s) (bit carry) st) st.cf

  pub adcx_row : Row t y Next_adcx (adcx_step dst d s t y)
  unfolding chained
  adcx_row = flag_row t y Next_adcx y.cf (λ c. chained with_cf dst (chain_sum c) (chain_carry c)) table (λ c k.
      let b = flag_bit t y.cf c k fits.cf in
      chained_row t y table fits Next_adcx dst (chain_sum c) (chain_carry c) (sum_fits c b) (carry_fits c b) tt tt tt
      (λ n. Some n) (λ n. y.of) (λ u n bit later. bit) (λ u n bit later. later.of)
      (λ r st v a.
      let e = a.registers dst in let small = v.sound.word in let f = flag_known r y.cf st.cf c k a.cf in
      record {
        word = (reg st dst + r.val s + bit f.value) % 2 ^ 64;
        out = nat_le (2 ^ 64) (reg st dst + r.val s + bit f.value);
        c = Some (nat_le (2 ^ 64) (reg st dst + r.val s + bit f.value));
        v = st.of;
        goes = ap (option_map (λ carry. adcx_into dst (r.val s) (bit carry) st)) f.defined;
        is = rw (e, ← f.word) (added_with (r.val d) (r.val s) (r.val c));
        carries = rw (e, ← f.word) (carried (r.val d) (r.val s) (r.val c) (small d d_inside) (small s inside)
            (rw f.word (bit_small f.value)));
        cf_agrees = λ n j. (_, refl, j);
        of_agrees = λ n j. a.of;
      }))

  abbrev Next_adox : Run → State → Option State
  Next_adox r st = option_map (λ carry. adox_into dst (r.val s) (bit carry) st) st.of

  pub adox_row : Row t y Next_adox (adox_step dst d s t y)
  unfolding chained
  adox_row = flag_row t y Next_adox y.of (λ c. chained with_of dst (chain_sum c) (chain_carry c)) table (λ c k.
      let b = flag_bit t y.of c k fits.of in
      chained_row t y table fits Next_adox dst (chain_sum c) (chain_carry c) (sum_fits c b) (carry_fits c b) tt tt tt
      (λ n. y.cf) (λ n. Some n) (λ u n bit later. later.cf) (λ u n bit later. bit)
      (λ r st v a.
      let e = a.registers dst in let small = v.sound.word in let f = flag_known r y.of st.of c k a.of in
      record {
        word = (reg st dst + r.val s + bit f.value) % 2 ^ 64;
        out = nat_le (2 ^ 64) (reg st dst + r.val s + bit f.value);
        c = st.cf;
        v = Some (nat_le (2 ^ 64) (reg st dst + r.val s + bit f.value));
        goes = ap (option_map (λ carry. adox_into dst (r.val s) (bit carry) st)) f.defined;
        is = rw (e, ← f.word) (added_with (r.val d) (r.val s) (r.val c));
        carries = rw (e, ← f.word) (carried (r.val d) (r.val s) (r.val c) (small d d_inside) (small s inside)
            (rw f.word (bit_small f.value)));
        cf_agrees = λ n j. a.cf;
        of_agrees = λ n j. (_, refl, j);
      }))
