-- The middles of the blocks that choose between two words by a condition.
use Rattle.std.proofs.Common.{◌≡◌, ℕ, true, false, ◌==◌, min, max, List, ◌++◌, Some, None, refl, ap, ◌∙◌}
use Rattle.std.proofs.Common.{sym, arith}
use Rattle.std.proofs.lemmas.Bool.Decides.{nat_tests}
use Rattle.word_operations.specs.declared.kind.Kind.TheVariants as operations
use Rattle.x86_instr.specs.declared.line.Line.{Line}
use Rattle.terms.specs.declared.nodes.Node.{Node}
use Rattle.terms.specs.declared.nodes.Form.TheVariants as forms
use Rattle.terms.specs.declared.nodes.Built.{Built}
use Rattle.terms.specs.declared.nodes.Built.TheVariants.{Is}
use Rattle.terms.specs.Tables.{Prefix}
use Rattle.terms.specs.Rules.{and_of, normal_of}
use Rattle.terms.proofs.Cases.{by_if}
use Rattle.term_store.specs.Interning.{made}
use Rattle.term_store.proofs.Interned.{made_there}
use Rattle.term_store.proofs.Made.{made_prefix}
use Rattle.term_store.proofs.Prefixes.{prefix_refl, prefix_trans}
use Rattle.symbolic_state.specs.Symbols.{Symbols}
use Rattle.symbolic_values.specs.Steps.{step_of}
use Rattle.plain_lower.specs.Blocks.{chosen_by_carry, chosen_by_test, in_rax}
use Rattle.term_laws.proofs.Entries.{IsBase}
use Rattle.plain_checks.proofs.Flags.{leads_carry_in}
use Rattle.plain_checks.proofs.Leading.{Leads, leads_on}
use Rattle.plain_checks.proofs.Nodes.{HasResults}
use Rattle.term_laws.proofs.Turned.{select_by_test}
use Rattle.plain_checks.proofs.Steps.{leads_result, logic_is, alike_number, has_number}
use Rattle.plain_checks.proofs.Work.{Ends, Work, state}

-- ---- a word and itself

of_equal : (t : List Node) (a b c : ℕ) → a ≡ c → b ≡ c → and_of t a b ≡ Is c
unfolding and_of
of_equal t a b c e h =
    let same : (a == b) ≡ true = grind (arith, nat_tests) in
    by_if (λ (o : Built). o ≡ Is c) (a == b) (Is a) _ (λ yes. ap Is e)
    (λ no. absurd (let f : true ≡ false = sym same ∙ no in cc))

and_itself : (t : List Node) (c : ℕ) → normal_of t (forms.And c c) ≡ Is c
unfolding normal_of
and_itself t c = of_equal t (min c c) (max c c) c (omega arith) (omega arith)

module _ {t0 t : List Node} (y : Symbols) {rest : List Line} {Q : List Node → Symbols → Type 0} (results : ℕ → ℕ)
    (op : ℕ) (base : IsBase t0) (p : Prefix t0 t) (w : Work)
    (has : HasResults t0 operations.CMov w.r10 w.rax w.rcx (results 0) 0) (ends : Ends t y results in_rax rest Q) where
  pub leads_chosen_by_test : Leads (chosen_by_test op ++ rest) t (state y w) Q
  unfolding step_of
  leads_chosen_by_test =
      let nought = made t (forms.Const 0) in
      let test = made nought.table (forms.Zero w.r10) in
      let pn = made_prefix t (forms.Const 0) in
      let pt = prefix_trans pn (made_prefix nought.table (forms.Zero w.r10)) in
      let tested : Work = record w {
        cf = Some nought.number;
        of = Some nought.number;
        zf = Some test.number;
        touch = None;
      } in
      let choice = forms.Select test.number w.rcx w.rax in
      leads_on refl
      (logic_is None (forms.And w.r10 w.r10) t (state y (record w { touch = None })) w.r10
      (made_there t (forms.And w.r10 w.r10) w.r10 (and_itself t w.r10)))
      (leads_result y tested choice (results 0) refl refl
      (alike_number base (prefix_trans p pt) has.1 choice
      (select_by_test w.r10 w.rax w.rcx base (prefix_trans p pn) has.0.inside has.0.high (prefix_refl test.table)))
      (ends test.table (record tested { rax = results 0 }) pt (refl, tt)))

  pub leads_chosen_by_carry : Leads (chosen_by_carry op ++ rest) t (state y w) Q
  unfolding step_of
  leads_chosen_by_carry = leads_carry_in y w base p has.0 (λ u x z pu.
      let before : Work = record w { r10 = x; cf = Some w.r10; of = None; zf = Some z; touch = None } in
      leads_result y before (forms.Select w.r10 w.rax w.rcx) (results 0) refl refl
      (has_number base (prefix_trans p pu) has.1)
      (ends u (record before { rax = results 0 }) pu (refl, tt)))
