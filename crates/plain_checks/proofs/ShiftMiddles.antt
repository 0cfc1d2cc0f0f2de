-- The middles of the blocks of shifts by a count.
use Rattle.std.proofs.Common.{◌≡◌, ℕ, ◌-◌, ◌^◌, ◌%◌, ◌≤◌, Bool, false, cond, ◌==◌, List, [], ◌∷◌, ◌++◌, Some}
use Rattle.std.proofs.Common.{None, refl, ap, ◌∙◌, arith}
use Rattle.std.proofs.lemmas.Bool.Decides.{nat_tests}
use Rattle.base.specs.Options.{pick}
use Rattle.word_operations.specs.declared.kind.Kind.TheVariants as operations
use Rattle.x86_instr.specs.declared.operand.Reg.{Reg}
use Rattle.x86_instr.specs.declared.operand.Reg.TheVariants.{Rax, Rcx, R10}
use Rattle.x86_instr.specs.declared.instr.Instr.TheVariants as instrs
use Rattle.x86_instr.specs.declared.line.Line.{Line}
use Rattle.terms.specs.declared.nodes.Node.{Node}
use Rattle.terms.specs.declared.nodes.Form.{Form}
use Rattle.terms.specs.declared.nodes.Form.TheVariants as forms
use Rattle.terms.specs.Tables.{const_of, node_at, Prefix}
use Rattle.terms.specs.Rules.{const_node}
use Rattle.term_store.specs.Interning.{Interned, made}
use Rattle.term_store.proofs.Prefixes.{prefix_trans}
use Rattle.program_nodes.specs.Terms.{plus, sum, term}
use Rattle.symbolic_state.specs.Symbols.{Symbols, with_node}
use Rattle.symbolic_values.specs.Steps.{Step, goes, on_count, result_and_zero, result_only, shifted_right, shlx_step}
use Rattle.symbolic_values.specs.Steps.{shrx_step, step_of, stuck, sum_of_two}
use Rattle.plain_lower.specs.Blocks.{alone, by_count, in_rax, shifted_double, shlx, shrx}
use Rattle.term_laws.proofs.Entries.{IsBase}
use Rattle.plain_checks.proofs.Flags.{leads_set}
use Rattle.plain_checks.proofs.Leading.{Leads, leads_on}
use Rattle.plain_checks.proofs.Nodes.{HasResults}
use Rattle.plain_checks.proofs.Steps.{leads_result, leads_zeroed, has_number, result_is}
use Rattle.plain_checks.proofs.Work.{Ends, Work, state}

-- ---- by a count in a register

counted : (t : List Node) (m k : ℕ) → node_at t m ≡ const_node (k % 2 ^ 64) → k ≤ 63
    → (rest : ℕ → List Node → Symbols → Step) (y : Symbols) → on_count m rest t y ≡ rest k t y
counted t m k here few rest y =
    let same : k % 2 ^ 64 % 64 ≡ k = omega arith in
    ap (λ (o : Node). pick (const_of o.kind) (λ n. rest (n % 64) t y) (stuck t)) here
    ∙ ap (λ (n : ℕ). rest n t y) same

shlx_is : (dst : Reg) (m s k : ℕ) (t : List Node) (y : Symbols) (r : ℕ) → node_at t m ≡ const_node (k % 2 ^ 64)
    → k ≤ 63 → made t (sum (term (2 ^ k) s ∷ [])) ≡ record { table = t; number = r }
    → shlx_step dst m s t y ≡ goes t (with_node dst r y)
shlx_is dst m s k t y r here few e =
    counted t m k here few (λ n. result_only dst (sum (term (2 ^ n) s ∷ []))) y
    ∙ result_is dst (sum (term (2 ^ k) s ∷ [])) t y r e

by_some : (dst : Reg) (s k : ℕ) (t : List Node) (y : Symbols) → 1 ≤ k
    → shifted_right dst s k t y ≡ result_only dst (forms.Shr s k) t y
unfolding shifted_right
by_some dst s k t y some =
    let e : (k == 0) ≡ false = grind (arith, nat_tests) in
    ap (λ (b : Bool). cond b (goes t (with_node dst s y)) (result_only dst (forms.Shr s k) t y)) e

shrx_is : (dst : Reg) (m s k : ℕ) (t : List Node) (y : Symbols) (r : ℕ) → node_at t m ≡ const_node (k % 2 ^ 64)
    → 1 ≤ k → k ≤ 63 → made t (forms.Shr s k) ≡ record { table = t; number = r }
    → shrx_step dst m s t y ≡ goes t (with_node dst r y)
shrx_is dst m s k t y r here some few e =
    counted t m k here few (shifted_right dst s) y ∙ by_some dst s k t y some ∙ result_is dst (forms.Shr s k) t y r e

-- ---- the sum of two

sum_of_two_is : (dst : Reg) (f g : Form) (t : List Node) (y : Symbols) (a b : ℕ)
    → made t f ≡ record { table = t; number = a } → made t g ≡ record { table = t; number = b }
    → sum_of_two dst f g t y ≡ result_and_zero None dst (sum (plus a ∷ plus b ∷ [])) t y
unfolding sum_of_two
sum_of_two_is dst f g t y a b e h =
    ap (λ (o : Interned). let q = made o.table g in
    result_and_zero None dst (sum (plus o.number ∷ plus q.number ∷ [])) q.table y) e
    ∙ ap (λ (o : Interned). result_and_zero None dst (sum (plus a ∷ plus o.number ∷ [])) o.table y) h

module _ {t0 t : List Node} (y : Symbols) {rest : List Line} {Q : List Node → Symbols → Type 0} (results : ℕ → ℕ)
    (op : ℕ) (base : IsBase t0) (p : Prefix t0 t) (w : Work) (k : ℕ) (some : 1 ≤ k) (few : k ≤ 63) where
  -- ---- to the left

  module _ (has : HasResults t0 (operations.Shl k) w.rax 0 0 (results 0) 0)
      (ends : Ends t y results in_rax rest Q) where
    pub leads_shl : Leads (alone (instrs.Shl Rax k) op ++ rest) t (state y w) Q
    unfolding step_of
    leads_shl =
        leads_zeroed y w (sum (term (2 ^ k) w.rax ∷ [])) (results 0) refl refl (has_number base p has) (λ u z pu.
        ends u (record w { rax = results 0; cf = None; of = None; zf = Some z; touch = None }) pu (refl, tt))

    pub leads_shlx : Leads (by_count Rcx k (shlx Rax Rcx) op ++ rest) t (state y w) Q
    unfolding step_of
    leads_shlx = leads_set y w Rcx k (λ u m pu within here. leads_on refl
        (shlx_is Rax m w.rax k u (state y (record w { rcx = m; touch = None })) (results 0) here few
        (has_number base (prefix_trans p pu) has))
        (ends u (record w { rax = results 0; rcx = m; touch = None }) pu (refl, tt)))

  -- ---- to the right

  module _ (has : HasResults t0 (operations.Shr k) w.rax 0 0 (results 0) 0)
      (ends : Ends t y results in_rax rest Q) where
    pub leads_shr : Leads (alone (instrs.Shr Rax k) op ++ rest) t (state y w) Q
    unfolding step_of
    leads_shr = leads_zeroed y w (forms.Shr w.rax k) (results 0) refl refl (has_number base p has) (λ u z pu.
        ends u (record w { rax = results 0; cf = None; of = None; zf = Some z; touch = None }) pu (refl, tt))

    pub leads_shrx : Leads (by_count Rcx k (shrx Rax Rcx) op ++ rest) t (state y w) Q
    unfolding step_of
    leads_shrx = leads_set y w Rcx k (λ u m pu within here. leads_on refl
        (shrx_is Rax m w.rax k u (state y (record w { rcx = m; touch = None })) (results 0) here some few
        (has_number base (prefix_trans p pu) has))
        (ends u (record w { rax = results 0; rcx = m; touch = None }) pu (refl, tt)))

  -- ---- two words to the right

  module _ (has : HasResults t0 (operations.Shrd k) w.rax w.rcx 0 (results 0) 0)
      (ends : Ends t y results in_rax rest Q) where
    pub leads_shrd : Leads (alone (instrs.Shrd Rax Rcx k) op ++ rest) t (state y w) Q
    unfolding step_of
    leads_shrd = leads_zeroed y w (sum (plus has.0 ∷ plus has.1 ∷ [])) (results 0) refl
        (sum_of_two_is Rax (forms.Shr w.rax k) (sum (term (2 ^ (64 - k)) w.rcx ∷ [])) t
        (state y (record w { touch = None })) has.0 has.1 (has_number base p has.2) (has_number base p has.3))
        (has_number base p has.4) (λ u z pu.
        ends u (record w { rax = results 0; cf = None; of = None; zf = Some z; touch = None }) pu (refl, tt))

    pub leads_shifted_double : Leads (shifted_double k op ++ rest) t (state y w) Q
    unfolding step_of
    leads_shifted_double = leads_set y w R10 k (λ u m pu within here.
        let pu0 = prefix_trans p pu in
        let low : Work = record w { rax = has.0; r10 = m; touch = None } in
        leads_on refl
        (shrx_is Rax m w.rax k u (state y (record w { r10 = m; touch = None })) has.0 here some few
        (has_number base pu0 has.2))
        (leads_set y low R10 (64 - k) (λ v n pv inside there.
        let pv0 = prefix_trans pu0 pv in
        let both : Work = record w { rax = has.0; rcx = has.1; r10 = n; touch = None } in
        leads_on refl
        (shlx_is Rcx n w.rcx (64 - k) v (state y (record low { r10 = n; touch = None })) has.1 there (omega arith)
        (has_number base pv0 has.3))
        (leads_result y both (sum (plus has.0 ∷ plus has.1 ∷ [])) (results 0) refl refl (has_number base pv0 has.4)
        (ends v (record both { rax = results 0 }) (prefix_trans pu pv) (refl, tt))))))
