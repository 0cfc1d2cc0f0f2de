-- The step of an instruction with a source in a register or the memory is that on the source's node, behind its fetch.
use Rattle.std.proofs.Common.{◌≡◌, ◌+◌, ◌≤◌, List, length, Option, Some, None, Result, refl, sym, ap, ◌∙◌, subst, arith}
use Rattle.std.specs.Prelude.{IfOk, OnErr}
use Rattle.x86_instr.specs.declared.instr.Instr.{Instr}
use Rattle.x86_instr.specs.declared.instr.Instr.TheVariants as instrs
use Rattle.x86_instr.specs.declared.operand.Rm.{Rm}
use Rattle.terms.specs.declared.nodes.Node.{Node}
use Rattle.terms.specs.Tables.{Prefix}
use Rattle.term_store.proofs.Prefixes.{prefix_trans}
use Rattle.symbolic_values.specs.declared.moved.Moved.{Moved}
use Rattle.symbolic_state.specs.Symbols.{Symbols, with_touch}
use Rattle.symbolic_state.specs.Fetching.{Fetched, Word, rm_fetched}
use Rattle.symbolic_values.specs.Moving.{IsStep, Leaves}
use Rattle.symbolic_values.specs.Steps.{Step, on_source, step_from}
use Rattle.symbolic_values.specs.Sourced.{source_of, step_on}
use Rattle.symbolic_state.proofs.Touches.{rm_fetched_touch}
use Rattle.symbolic_values.proofs.StepParts.{source_on}
use Rattle.symbolic_values.proofs.StepTables.{extends_on}

same_source : (p q : Rm) → Some p ≡ Some q → q ≡ p
same_source p q e = cc

no_source : (src : Rm) → None ≡ Some src → ⊥
no_source src e = cc

module _ (t : List Node) (y : Symbols) where
  abbrev Step_with : Instr → Rm → Type 0
  Step_with i src = step_from i t (with_touch None y)
      ≡ on_source (rm_fetched t y src) (with_touch None y) (step_on i y)

  -- the fetch does not see the access before it
  fetched : (i : Instr) (p src : Rm) → Some p ≡ Some src
      → step_from i t (with_touch None y)
      ≡ on_source (rm_fetched t (with_touch None y) p) (with_touch None y) (step_on i y)
      → Step_with i src
  fetched i p src e step = step
      ∙ ap (λ (o : Fetched). on_source o (with_touch None y) (step_on i y))
      (ap (rm_fetched t (with_touch None y)) (sym (same_source p src e)) ∙ rm_fetched_touch t y None src)

  sourced_is : (i : Instr) (src : Rm) → source_of i ≡ Some src → Step_with i src
  sourced_is (instrs.Mov dst p) src e = fetched (instrs.Mov dst p) p src e refl
  sourced_is (instrs.Adcx dst p) src e = fetched (instrs.Adcx dst p) p src e refl
  sourced_is (instrs.Adox dst p) src e = fetched (instrs.Adox dst p) p src e refl
  sourced_is (instrs.Mulx hi lo p) src e = fetched (instrs.Mulx hi lo p) p src e refl
  sourced_is (instrs.Mul p) src e = fetched (instrs.Mul p) p src e refl
  sourced_is (instrs.Imul dst p) src e = fetched (instrs.Imul dst p) p src e refl
  sourced_is (instrs.Shlx dst p count) src e = fetched (instrs.Shlx dst p count) p src e refl
  sourced_is (instrs.Shrx dst p count) src e = fetched (instrs.Shrx dst p count) p src e refl
  sourced_is (instrs.Cmov cond dst p) src e = fetched (instrs.Cmov cond dst p) p src e refl
  sourced_is i src e = absurd (no_source src e)

  -- a first part of the table that the fetch leaves is one of the step's
  pub sourced_part : {u : List Node} (i : Instr) (src : Rm) → source_of i ≡ Some src
      → Prefix u (rm_fetched t y src).table → Prefix u (step_from i t (with_touch None y)).table
  sourced_part {u} i src e p =
      let from = rm_fetched t y src in
      prefix_trans p (subst (λ s. Prefix from.table s.table) (sym (sourced_is i src e))
      (source_on from.table (with_touch None y) from.word (step_on i y)
      (λ w. (extends_on from.table (with_touch w.touch y) i y w.node).adds.prefix)))

  -- behind a fetch that found a word the whole step leaves what the step on the word does
  module _ (i : Instr) (src : Rm) (w : Word) (u : List Node) where
    step_behind : source_of i ≡ Some src → record { table = u; word = Some w } ≡ rm_fetched t y src
        → step_on i y w.node u (with_touch w.touch y) ≡ step_from i t (with_touch None y)
    step_behind e found = ap (λ (o : Fetched). on_source o (with_touch None y) (step_on i y)) found
        ∙ sym (sourced_is i src e)

  pub sourced_leaves : {E : Type 0} (i : Instr) (src : Rm) (w : Word) (o : Option Word) (u v : List Node)
      (z : Symbols) (answer : Result Moved E) → source_of i ≡ Some src
      → record { table = u; word = o } ≡ rm_fetched t y src → o ≡ Some w → Prefix t u → length u ≤ length t + 1
      → Leaves 3 (step_on i y w.node u (with_touch w.touch y)) answer u v y z
      → Leaves 16 (step_from i t (with_touch None y)) answer t v y z
  sourced_leaves i src w o u v z answer e fetch is p few leaves =
      let most = leaves.4 in
      let found = subst (λ (a : Option Word). record { table = u; word = a } ≡ rm_fetched t y src) is fetch in
      let same = subst (λ (s : Step). IfOk answer (λ moved. IsStep moved s v y z) × OnErr answer (Prefix v s.table))
      (step_behind i src w u e found) (leaves.0, leaves.1) in
      (same.0, same.1, leaves.2, prefix_trans p leaves.3, omega arith)
