-- The middles of the blocks that add with a carry or subtract with a borrow: with the operands' nodes in registers,
-- they leave the results' nodes in registers.
use Rattle.std.proofs.Common.{◌≡◌, ℕ, ◌<◌, List, [], ◌∷◌, ◌++◌, length, Some, None, refl, ap, ◌∙◌}
use Rattle.word_operations.specs.declared.kind.Kind.TheVariants.{AddCarry, SubBorrow}
use Rattle.x86_instr.specs.declared.operand.Reg.TheVariants.{Rax, Rcx, R10}
use Rattle.x86_instr.specs.declared.instr.Bin.TheVariants as bins
use Rattle.x86_instr.specs.declared.instr.Cond.TheVariants as conds
use Rattle.x86_instr.specs.declared.line.Line.{Line}
use Rattle.terms.specs.declared.nodes.Node.{Node}
use Rattle.terms.specs.declared.nodes.Form.{Form}
use Rattle.terms.specs.declared.nodes.Form.TheVariants as forms
use Rattle.terms.specs.Tables.{node_at, Prefix}
use Rattle.terms.specs.Rules.{const_node}
use Rattle.term_store.specs.Interning.{Interned, made}
use Rattle.term_store.proofs.Prefixes.{at_front, prefix_refl, prefix_trans}
use Rattle.program_nodes.specs.Terms.{minus, plus, sum}
use Rattle.symbolic_state.specs.Symbols.{Symbols, with_cf, with_of}
use Rattle.symbolic_values.specs.Steps.{set_by, step_of}
use Rattle.plain_lower.specs.Blocks.{adcx, alone, bin, in_rax, in_rax_and, lea, with_carries, with_carry_out}
use Rattle.plain_lower.specs.Blocks.{with_overflows}
use Rattle.term_laws.proofs.Entries.{IsBase}
use Rattle.plain_checks.proofs.Flags.{leads_carry_in, leads_flag_out, leads_overflow_in}
use Rattle.plain_checks.proofs.Leading.{Leads, leads_on}
use Rattle.plain_checks.proofs.Nodes.{HasResults}
use Rattle.term_laws.proofs.Noughts.{borrow_nought, carry_nought, difference_nought, sum_nought}
use Rattle.term_laws.proofs.Rotations.{carry_rotated}
use Rattle.term_laws.proofs.Rotations.{sum_rotated}
use Rattle.plain_checks.proofs.Steps.{chained_is, later, leads_arithmetic, leads_result, alike_number, has_number}
use Rattle.plain_checks.proofs.Work.{Ends, Work, state}

-- the number of what is made
number_is : (u : List Node) (form : Form) (n : ℕ) → made u form ≡ record { table = u; number = n }
    → (made u form).number ≡ n
number_is u form n e = ap (λ (o : Interned). o.number) e

-- ---- the source's sum and carry, in the order of an instruction that adds

abbrev total : Work → Form
total w = sum (plus w.rax ∷ plus w.rcx ∷ plus w.r10 ∷ [])

abbrev carry : Work → Form
carry w = forms.Carry (w.rax ∷ w.rcx ∷ w.r10 ∷ [])

-- the operands are in the table, which has their sum and its carry
pub record Sums (t0 : List Node) (w : Work) (r q : ℕ) : Type 0 where
  pub has : HasResults t0 AddCarry w.r10 w.rax w.rcx r q
  pub first : w.rax < length t0
  pub second : w.rcx < length t0

total_is : {t0 u : List Node} {r q : ℕ} (w : Work) → IsBase t0 → Prefix t0 u → Sums t0 w r q
    → made u (total w) ≡ record { table = u; number = r }
total_is {t0} {u} w base p sums = alike_number base p sums.has.2 (total w)
    (sum_rotated u w.r10 w.rax w.rcx (later w.r10 p sums.has.0.inside) (later w.rax p sums.first)
    (later w.rcx p sums.second))

carry_is : {t0 u : List Node} {r q : ℕ} (w : Work) → IsBase t0 → Prefix t0 u → Sums t0 w r q
    → made u (carry w) ≡ record { table = u; number = q }
carry_is {t0} {u} w base p sums =
    alike_number base p sums.has.3 (carry w) (carry_rotated u w.r10 w.rax w.rcx)

-- the same of two words, where the carry is 0
abbrev two_words : Work → Form
two_words w = sum (plus w.rax ∷ plus w.rcx ∷ [])

nought_there : {t0 u : List Node} (c : ℕ) → Prefix t0 u → c < length t0 → node_at t0 c ≡ const_node 0
    → node_at u c ≡ const_node 0
nought_there c p h zero = at_front c p h ∙ zero

total_of_two : {t0 u : List Node} {r q : ℕ} (w : Work) (c : ℕ) → IsBase t0 → Prefix t0 u
    → HasResults t0 AddCarry c w.rax w.rcx r q → w.rax < length t0 → w.rcx < length t0
    → node_at t0 c ≡ const_node 0 → made u (two_words w) ≡ record { table = u; number = r }
total_of_two {t0} {u} w c base p has i k zero = alike_number base p has.2 (two_words w)
    (sum_nought u c w.rax w.rcx (nought_there c p has.0.inside zero) (later c p has.0.inside) (later w.rax p i)
    (later w.rcx p k))

module _ {t0 t : List Node} (y : Symbols) {rest : List Line} {Q : List Node → Symbols → Type 0} (results : ℕ → ℕ)
    (op : ℕ) (base : IsBase t0) (p : Prefix t0 t) where
  -- ---- with a carry in a register

  module _ (w : Work) (sums : Sums t0 w (results 0) (results 1)) where
    pub leads_adc : Ends t y results (in_rax_and R10) rest Q
        → Leads (with_carries (bin bins.Adc) op ++ rest) t (state y w) Q
    unfolding step_of set_by
    leads_adc ends = leads_carry_in y w base p sums.has.0 (λ u x z pu.
        let pu0 = prefix_trans p pu in
        let before : Work = record w { r10 = x; cf = Some w.r10; of = None; zf = Some z; touch = None } in
        leads_arithmetic y before (total w) (carry w) (results 0) (results 1) refl refl (total_is w base pu0 sums)
        (number_is u (carry w) (results 1) (carry_is w base pu0 sums)) (λ v n pv.
        let after : Work = record before {
          rax = results 0;
          cf = Some (results 1);
          of = None;
          zf = Some n;
          touch = None;
        } in
        leads_flag_out y after (results 1) (prefix_trans pu0 pv) sums.has.1 conds.C refl (λ s ps.
        ends s (record after { r10 = results 1; touch = None }) (prefix_trans pu (prefix_trans pv ps))
        (refl, (refl, tt)))))

    pub leads_adcx : Ends t y results (in_rax_and R10) rest Q
        → Leads (with_carries adcx op ++ rest) t (state y w) Q
    unfolding step_of set_by
    leads_adcx ends = leads_carry_in y w base p sums.has.0 (λ u x z pu.
        let pu0 = prefix_trans p pu in
        let before : Work = record w { r10 = x; cf = Some w.r10; of = None; zf = Some z; touch = None } in
        let after : Work = record before { rax = results 0; cf = Some (results 1) } in
        leads_on refl
        (chained_is with_cf Rax (total w) (carry w) u (state y before) (results 0) (results 1)
        (total_is w base pu0 sums) (carry_is w base pu0 sums))
        (leads_flag_out y after (results 1) pu0 sums.has.1 conds.C refl (λ s ps.
        ends s (record after { r10 = results 1; touch = None }) (prefix_trans pu ps) (refl, (refl, tt)))))

    pub leads_adox : Ends t y results (in_rax_and R10) rest Q → Leads (with_overflows op ++ rest) t (state y w) Q
    unfolding step_of set_by
    leads_adox ends = leads_overflow_in y w base p sums.has.0 (λ u x m z pu.
        let pu0 = prefix_trans p pu in
        let before : Work = record w { r10 = x; r11 = m; of = Some w.r10; zf = Some z; touch = None } in
        let after : Work = record before { rax = results 0; of = Some (results 1) } in
        leads_on refl
        (chained_is with_of Rax (total w) (carry w) u (state y before) (results 0) (results 1)
        (total_is w base pu0 sums) (carry_is w base pu0 sums))
        (leads_flag_out y after (results 1) pu0 sums.has.1 conds.O refl (λ s ps.
        ends s (record after { r10 = results 1; touch = None }) (prefix_trans pu ps) (refl, (refl, tt)))))

  -- ---- with a carry that is 0

  module _ (w : Work) (c : ℕ) (zero : node_at t0 c ≡ const_node 0) (i : w.rax < length t0) (k : w.rcx < length t0)
      (has : HasResults t0 AddCarry c w.rax w.rcx (results 0) (results 1)) where
    pub leads_add_first : Ends t y results (in_rax_and R10) rest Q
        → Leads (with_carry_out (bin bins.Add) op ++ rest) t (state y w) Q
    unfolding step_of set_by
    leads_add_first ends =
        let short = forms.Carry (w.rax ∷ w.rcx ∷ []) in
        let nought = nought_there c p has.0.inside zero in
        leads_arithmetic y w (two_words w) short (results 0) (results 1) refl refl
        (total_of_two w c base p has i k zero)
        (number_is t short (results 1) (alike_number base p has.3 short (carry_nought t c w.rax w.rcx nought)))
        (λ v n pv.
        let after : Work = record w { rax = results 0; cf = Some (results 1); of = None; zf = Some n; touch = None } in
        leads_flag_out y after (results 1) (prefix_trans p pv) has.1 conds.C refl (λ s ps.
        ends s (record after { r10 = results 1; touch = None }) (prefix_trans pv ps) (refl, (refl, tt))))

    pub leads_lea_first : Ends t y results in_rax rest Q → Leads (alone (lea Rax Rcx) op ++ rest) t (state y w) Q
    unfolding step_of
    leads_lea_first ends = leads_result y w (two_words w) (results 0) refl refl
        (total_of_two w c base p has i k zero)
        (ends t (record w { rax = results 0; touch = None }) (prefix_refl t) (refl, tt))

  -- ---- with a borrow in a register

  module _ (w : Work) (has : HasResults t0 SubBorrow w.r10 w.rax w.rcx (results 0) (results 1)) where
    pub leads_sbb : Ends t y results (in_rax_and R10) rest Q
        → Leads (with_carries (bin bins.Sbb) op ++ rest) t (state y w) Q
    unfolding step_of set_by
    leads_sbb ends = leads_carry_in y w base p has.0 (λ u x z pu.
        let pu0 = prefix_trans p pu in
        let before : Work = record w { r10 = x; cf = Some w.r10; of = None; zf = Some z; touch = None } in
        leads_arithmetic y before (sum (plus w.rax ∷ minus w.rcx ∷ minus w.r10 ∷ []))
        (forms.Borrow w.rax (w.rcx ∷ w.r10 ∷ [])) (results 0) (results 1) refl refl (has_number base pu0 has.2)
        (number_is u (forms.Borrow w.rax (w.rcx ∷ w.r10 ∷ [])) (results 1) (has_number base pu0 has.3)) (λ v n pv.
        let after : Work = record before {
          rax = results 0;
          cf = Some (results 1);
          of = None;
          zf = Some n;
          touch = None;
        } in
        leads_flag_out y after (results 1) (prefix_trans pu0 pv) has.1 conds.C refl (λ s ps.
        ends s (record after { r10 = results 1; touch = None }) (prefix_trans pu (prefix_trans pv ps))
        (refl, (refl, tt)))))

  -- ---- with a borrow that is 0

  module _ (w : Work) (c : ℕ) (zero : node_at t0 c ≡ const_node 0) (i : w.rax < length t0) (k : w.rcx < length t0)
      (has : HasResults t0 SubBorrow c w.rax w.rcx (results 0) (results 1)) where
    pub leads_sub_first : Ends t y results (in_rax_and R10) rest Q
        → Leads (with_carry_out (bin bins.Sub) op ++ rest) t (state y w) Q
    unfolding step_of set_by
    leads_sub_first ends =
        let nought = nought_there c p has.0.inside zero in
        let difference = sum (plus w.rax ∷ minus w.rcx ∷ []) in
        let borrow = forms.Borrow w.rax (w.rcx ∷ []) in
        leads_arithmetic y w difference borrow (results 0) (results 1) refl refl
        (alike_number base p has.2 difference (difference_nought t c w.rax w.rcx nought (later c p has.0.inside)
        (later w.rax p i) (later w.rcx p k)))
        (number_is t borrow (results 1) (alike_number base p has.3 borrow (borrow_nought t c w.rax w.rcx nought)))
        (λ v n pv.
        let after : Work = record w { rax = results 0; cf = Some (results 1); of = None; zf = Some n; touch = None } in
        leads_flag_out y after (results 1) (prefix_trans p pv) has.1 conds.C refl (λ s ps.
        ends s (record after { r10 = results 1; touch = None }) (prefix_trans pv ps) (refl, (refl, tt))))
