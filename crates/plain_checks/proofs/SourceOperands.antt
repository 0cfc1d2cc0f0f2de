-- The operands of an operation have their nodes in every table that goes on from the one in which these are made.
use Rattle.std.proofs.Common.{◌≡◌, ℕ, zero, suc, ◌<◌, Bool, List, [], ◌∷◌, ◌++◌, length, refl, sym, ap, subst, arith}
use Rattle.std.specs.Prelude.{slice_index, slice_index_or}
use Rattle.std.specs.List.{AllByRecursion}
use Rattle.word_program.specs.declared.parameter.Param.{Param}
use Rattle.word_program.specs.declared.operation.Operand.{Operand}
use Rattle.word_program.specs.declared.operation.Operand.TheVariants as operands
use Rattle.word_program.specs.Accepted.{IsOperand, IsParam}
use Rattle.terms.specs.declared.nodes.Node.{Node}
use Rattle.terms.specs.declared.nodes.Form.TheVariants as forms
use Rattle.terms.specs.Tables.{IsTable, Prefix}
use Rattle.terms.specs.Grown.{IsGrown}
use Rattle.term_store.specs.Interning.{AllMade}
use Rattle.term_store.proofs.Made.{made_table}
use Rattle.term_store.proofs.Prefixes.{prefix_trans}
use Rattle.program_nodes.specs.Operands.{IsProgramForm}
use Rattle.program_nodes.specs.Sources.{input_form, operand_made, operands_made}
use Rattle.program_nodes.proofs.SourceTables.{bounds_word, operand_grows, operands_grow}
use Rattle.term_laws.specs.Numbers.{Has}
use Rattle.term_laws.proofs.Stable.{has_later, made_has}

-- the operand has this node, where these are a table and the nodes of all values
abbrev pub IsOperandIn : List Param → AllMade → Operand → ℕ → Type 0
IsOperandIn ps whole (operands.Literal n) number = Has whole.table (forms.Const n) number
IsOperandIn ps whole (operands.Input param word) number = Has whole.table (input_form ps param word) number
IsOperandIn ps whole (operands.Value value) number =
    (value < length whole.numbers) × (slice_index whole.numbers value ≡ number)

module _ (ps : List Param) (params : AllByRecursion IsParam ps) (values : List ℕ) (bits : List Bool) (whole : AllMade)
    (kept : (v : ℕ) → v < length bits
    → (v < length whole.numbers) × (slice_index whole.numbers v ≡ slice_index values v))
  where
    -- one operand has one node
    one_number : (t : List Node) (o : Operand) → (operand_made ps values t o).numbers
        ≡ slice_index (operand_made ps values t o).numbers 0 ∷ []
    one_number t (operands.Literal n) = refl
    one_number t (operands.Input param word) = refl
    one_number t (operands.Value value) = refl

    operand_there : (t : List Node) → IsTable t → (o : Operand) → IsOperand ps (length bits) o
        → Prefix (operand_made ps values t o).table whole.table
        → IsOperandIn ps whole o (slice_index (operand_made ps values t o).numbers 0)
    operand_there t table (operands.Literal n) h p =
        has_later (made_table t (forms.Const n) table h) p (made_has t (forms.Const n) table h)
    operand_there t table (operands.Input param word) h p =
        let word_fits = bounds_word ps params param word in
        has_later (made_table t (input_form ps param word) table word_fits) p
        (made_has t (input_form ps param word) table word_fits)
    operand_there t table (operands.Value value) h p = kept value h

    -- the operand at a place
    pub operands_there : (t : List Node) → IsTable t → IsGrown (IsProgramForm ps) t → (os : List Operand)
        → AllByRecursion (IsOperand ps (length bits)) os → Prefix (operands_made ps values t os).table whole.table
        → (place : ℕ) → place < length os
        → IsOperandIn ps whole (slice_index_or os place (operands.Literal 0))
        (slice_index (operands_made ps values t os).numbers place)
    operands_there t table grown [] h p place l = absurd (omega (arith, l))
    operands_there t table grown (o ∷ os) h p zero l =
        let u = operand_made ps values t o in
        let w = operands_made ps values u.table os in
        let first = operand_grows ps params values bits t table grown o h.0 in
        let rest = operands_grow ps params values bits u.table first.table first.grown os h.1 in
        subst (IsOperandIn ps whole o)
        (sym (ap (λ (ns : List ℕ). slice_index (ns ++ w.numbers) 0) (one_number t o)))
        (operand_there t table o h.0 (prefix_trans rest.prefix p))
    operands_there t table grown (o ∷ os) h p (suc place) l =
        let u = operand_made ps values t o in
        let w = operands_made ps values u.table os in
        let first = operand_grows ps params values bits t table grown o h.0 in
        subst (IsOperandIn ps whole (slice_index_or os place (operands.Literal 0)))
        (sym (ap (λ (ns : List ℕ). slice_index (ns ++ w.numbers) (suc place)) (one_number t o)))
        (operands_there u.table first.table first.grown os h.1 p place (omega (arith, l)))
