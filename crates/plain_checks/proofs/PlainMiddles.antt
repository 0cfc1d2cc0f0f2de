-- The middles of the blocks of products, sums, differences, words by bits, and copies.
use Rattle.std.proofs.Common.{◌≡◌, ℕ, ◌-◌, ◌^◌, List, [], ◌∷◌, ◌++◌, Some, None, refl, sym, ap, ◌∙◌}
use Rattle.word_operations.specs.declared.kind.Kind.TheVariants as operations
use Rattle.x86_instr.specs.declared.operand.Reg.{Reg}
use Rattle.x86_instr.specs.declared.operand.Reg.TheVariants.{Rax, Rcx, Rdx, R10}
use Rattle.x86_instr.specs.declared.instr.Bin.TheVariants as bins
use Rattle.x86_instr.specs.declared.line.Line.{Line}
use Rattle.terms.specs.declared.nodes.Node.{Node}
use Rattle.terms.specs.declared.nodes.Form.TheVariants as forms
use Rattle.terms.specs.Tables.{Prefix}
use Rattle.term_store.specs.Interning.{Interned, made}
use Rattle.term_store.proofs.Made.{made_prefix}
use Rattle.term_store.proofs.Prefixes.{prefix_refl}
use Rattle.program_nodes.specs.Terms.{minus, plus, sum}
use Rattle.symbolic_state.specs.Symbols.{Symbols, with_flags, with_node}
use Rattle.symbolic_values.specs.Steps.{goes, imul_step, mul_step, mulx_step, step_of}
use Rattle.plain_lower.specs.Blocks.{alone, bin, copy, flip, imul, in_rax, in_rax_and, lea, mul, mulx}
use Rattle.term_laws.proofs.Entries.{IsBase}
use Rattle.plain_checks.proofs.Leading.{Leads, leads_on}
use Rattle.plain_checks.proofs.Nodes.{HasResults}
use Rattle.plain_checks.proofs.Steps.{leads_arithmetic, leads_logic, leads_result, has_number}
use Rattle.plain_checks.proofs.Work.{Ends, Work, state}

-- ---- products

mulx_is : (hi lo : Reg) (a b : ℕ) (t : List Node) (y : Symbols) (r : ℕ)
    → made t (forms.MulLo a b) ≡ record { table = t; number = r }
    → mulx_step hi lo a b t y ≡ (let high = made t (forms.MulHi a b) in
    goes high.table (with_node hi high.number (with_node lo r y)))
unfolding mulx_step
mulx_is hi lo a b t y r e = ap (λ (o : Interned). let high = made o.table (forms.MulHi a b) in
    goes high.table (with_node hi high.number (with_node lo o.number y))) e

mul_is : (a b : ℕ) (t : List Node) (y : Symbols) (r q : ℕ) → made t (forms.MulLo a b) ≡ record { table = t; number = r }
    → made t (forms.MulHi a b) ≡ record { table = t; number = q }
    → mul_step a b t y ≡ goes t (with_flags None None None (with_node Rax r (with_node Rdx q y)))
unfolding mul_step
mul_is a b t y r q e h = ap (λ (o : Interned). let high = made o.table (forms.MulHi a b) in
    goes high.table (with_flags None None None (with_node Rax o.number (with_node Rdx high.number y)))) e
    ∙ ap (λ (o : Interned). goes o.table (with_flags None None None (with_node Rax r (with_node Rdx o.number y)))) h

imul_is : (dst : Reg) (a b : ℕ) (t : List Node) (y : Symbols) (r : ℕ)
    → made t (forms.MulLo a b) ≡ record { table = t; number = r }
    → imul_step dst a b t y ≡ goes t (with_flags None None None (with_node dst r y))
unfolding imul_step
imul_is dst a b t y r e = ap (λ (o : Interned). goes o.table (with_flags None None None (with_node dst o.number y))) e

module _ {t0 t : List Node} (y : Symbols) {rest : List Line} {Q : List Node → Symbols → Type 0} (results : ℕ → ℕ)
    (op : ℕ) (base : IsBase t0) (p : Prefix t0 t) (w : Work) where
  pub leads_mulx : HasResults t0 operations.MulX w.rdx w.rcx 0 (results 0) (results 1)
      → Ends t y results (in_rax_and R10) rest Q → Leads (alone mulx op ++ rest) t (state y w) Q
  unfolding step_of
  leads_mulx has ends =
      let high = has_number base p has.1 in
      leads_on refl
      (mulx_is R10 Rax w.rdx w.rcx t (state y (record w { touch = None })) (results 0) (has_number base p has.0)
      ∙ ap (λ (o : Interned). goes o.table (state y (record w {
        rax = results 0;
        r10 = o.number;
        touch = None;
      }))) high)
      (ends t (record w { rax = results 0; r10 = results 1; touch = None }) (prefix_refl t) (refl, (refl, tt)))

  pub leads_mul : HasResults t0 operations.MulX w.rax w.rcx 0 (results 0) (results 1)
      → Ends t y results (in_rax_and Rdx) rest Q → Leads (alone mul op ++ rest) t (state y w) Q
  unfolding step_of
  leads_mul has ends = leads_on refl
      (mul_is w.rax w.rcx t (state y (record w { touch = None })) (results 0) (results 1) (has_number base p has.0)
      (has_number base p has.1))
      (ends t (record w {
        rax = results 0;
        rdx = results 1;
        cf = None;
        of = None;
        zf = None;
        touch = None;
      }) (prefix_refl t) (refl, (refl, tt)))

  pub leads_imul : HasResults t0 operations.Mul w.rax w.rcx 0 (results 0) 0
      → Ends t y results in_rax rest Q → Leads (alone imul op ++ rest) t (state y w) Q
  unfolding step_of
  leads_imul has ends = leads_on refl
      (imul_is Rax w.rax w.rcx t (state y (record w { touch = None })) (results 0) (has_number base p has))
      (ends t (record w { rax = results 0; cf = None; of = None; zf = None; touch = None }) (prefix_refl t) (refl, tt))

  pub leads_low_of_mulx : HasResults t0 operations.Mul w.rdx w.rcx 0 (results 0) 0
      → Ends t y results in_rax rest Q → Leads (alone mulx op ++ rest) t (state y w) Q
  unfolding step_of
  leads_low_of_mulx has ends =
      let high = made t (forms.MulHi w.rdx w.rcx) in
      leads_on refl
      (mulx_is R10 Rax w.rdx w.rcx t (state y (record w { touch = None })) (results 0) (has_number base p has))
      (ends high.table (record w { rax = results 0; r10 = high.number; touch = None })
      (made_prefix t (forms.MulHi w.rdx w.rcx)) (refl, tt))

  -- ---- sums and differences

  pub leads_add : HasResults t0 operations.Add w.rax w.rcx 0 (results 0) 0
      → Ends t y results in_rax rest Q → Leads (alone (bin bins.Add) op ++ rest) t (state y w) Q
  unfolding step_of
  leads_add has ends =
      let carry = forms.Carry (w.rax ∷ w.rcx ∷ []) in
      leads_arithmetic y w (sum (plus w.rax ∷ plus w.rcx ∷ [])) carry (results 0) (made t carry).number refl refl
      (has_number base p has) refl (λ u z pu.
      ends u (record w { rax = results 0; cf = Some (made t carry).number; of = None; zf = Some z; touch = None }) pu
      (refl, tt))

  pub leads_lea : HasResults t0 operations.Add w.rax w.rcx 0 (results 0) 0
      → Ends t y results in_rax rest Q → Leads (alone (lea Rax Rcx) op ++ rest) t (state y w) Q
  unfolding step_of
  leads_lea has ends =
      leads_result y w (sum (plus w.rax ∷ plus w.rcx ∷ [])) (results 0) refl refl (has_number base p has)
      (ends t (record w { rax = results 0; touch = None }) (prefix_refl t) (refl, tt))

  pub leads_sub : HasResults t0 operations.Sub w.rax w.rcx 0 (results 0) 0
      → Ends t y results in_rax rest Q → Leads (alone (bin bins.Sub) op ++ rest) t (state y w) Q
  unfolding step_of
  leads_sub has ends =
      let borrow = forms.Borrow w.rax (w.rcx ∷ []) in
      leads_arithmetic y w (sum (plus w.rax ∷ minus w.rcx ∷ [])) borrow (results 0) (made t borrow).number refl
      refl (has_number base p has) refl (λ u z pu.
      ends u (record w { rax = results 0; cf = Some (made t borrow).number; of = None; zf = Some z; touch = None }) pu
      (refl, tt))

  -- ---- by bits

  pub leads_and : HasResults t0 operations.And w.rax w.rcx 0 (results 0) 0
      → Ends t y results in_rax rest Q → Leads (alone (bin bins.And) op ++ rest) t (state y w) Q
  unfolding step_of
  leads_and has ends =
      leads_logic y w (forms.And w.rax w.rcx) (results 0) refl refl (has_number base p has) (λ u c z pu.
      ends u (record w { rax = results 0; cf = Some c; of = Some c; zf = Some z; touch = None }) pu (refl, tt))

  pub leads_or : HasResults t0 operations.Or w.rax w.rcx 0 (results 0) 0
      → Ends t y results in_rax rest Q → Leads (alone (bin bins.Or) op ++ rest) t (state y w) Q
  unfolding step_of
  leads_or has ends =
      leads_logic y w (forms.Or w.rax w.rcx) (results 0) refl refl (has_number base p has) (λ u c z pu.
      ends u (record w { rax = results 0; cf = Some c; of = Some c; zf = Some z; touch = None }) pu (refl, tt))

  pub leads_xor : HasResults t0 operations.Xor w.rax w.rcx 0 (results 0) 0
      → Ends t y results in_rax rest Q → Leads (alone (bin bins.Xor) op ++ rest) t (state y w) Q
  unfolding step_of
  leads_xor has ends =
      leads_logic y w (forms.Xor w.rax w.rcx) (results 0) refl refl (has_number base p has) (λ u c z pu.
      ends u (record w { rax = results 0; cf = Some c; of = Some c; zf = Some z; touch = None }) pu (refl, tt))

  pub leads_not : HasResults t0 operations.Not w.rax 0 0 (results 0) 0
      → Ends t y results in_rax rest Q → Leads (alone flip op ++ rest) t (state y w) Q
  unfolding step_of
  leads_not has ends =
      leads_result y w (forms.Lin (2 ^ 64 - 1) (minus w.rax ∷ [])) (results 0) refl refl (has_number base p has)
      (ends t (record w { rax = results 0; touch = None }) (prefix_refl t) (refl, tt))

  pub leads_copy : HasResults t0 operations.Copy w.rcx 0 0 (results 0) 0
      → Ends t y results in_rax rest Q → Leads (alone copy op ++ rest) t (state y w) Q
  unfolding step_of
  leads_copy has ends = leads_on refl refl
      (ends t (record w { rax = w.rcx; touch = None }) (prefix_refl t) (sym has, tt))
