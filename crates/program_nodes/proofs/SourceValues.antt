-- The nodes of a program's values have the words that the program computes.
use Rattle.std.proofs.Common.{◌≡◌, ℕ, ◌*◌, Bool, List, [], ◌∷◌, ◌++◌, length, map, refl, sym, ap, ◌∙◌, arith}
use Rattle.std.specs.Prelude.{fold, slice_index}
use Rattle.std.specs.List.{AllByRecursion}
use Rattle.std.proofs.lemmas.List.{get_or-map, length-map, map-append}
use Rattle.word_operations.specs.Operations.{results_of}
use Rattle.word_program.specs.declared.parameter.Param.{Param}
use Rattle.word_program.specs.declared.operation.Op.{Op}
use Rattle.word_program.specs.declared.operation.Operand.{Operand}
use Rattle.word_program.specs.declared.operation.Operand.TheVariants as operands
use Rattle.word_program.specs.Program.{Source}
use Rattle.word_program.specs.Values.{AreWithin, input_bounds, input_word, is_bit_by, op_bits, op_words, operand_word}
use Rattle.word_program.specs.Values.{values_of, values_on}
use Rattle.word_program.specs.Accepted.{AreOps, IsAccepted, IsOp, IsOperand, IsParam}
use Rattle.word_program.proofs.InputWords.{input_within}
use Rattle.terms.specs.declared.nodes.Node.{Node}
use Rattle.terms.specs.declared.nodes.Form.TheVariants as forms
use Rattle.terms.specs.Tables.{IsTable}
use Rattle.terms.specs.Grown.{IsGrown}
use Rattle.terms.specs.Meaning.{Start}
use Rattle.term_store.specs.Interning.{AllMade}
use Rattle.program_nodes.specs.Operands.{AreNodesOf, IsProgramForm}
use Rattle.program_nodes.specs.Sources.{and_op, input_form, op_made, operand_made, operands_made, results_made}
use Rattle.program_nodes.specs.Sources.{IsRunOn, source_made}
use Rattle.program_nodes.proofs.Growing.{all_made_values, nodes_later}
use Rattle.program_nodes.proofs.SourceRows.{row_grows}
use Rattle.program_nodes.proofs.SourceTables.{AreSourced, as_many_nodes, bounds_word, operand_grows, operand_nodes_of}
use Rattle.program_nodes.proofs.SourceTables.{operands_grow, operands_nodes, ops_grow, some_operand, step_sourced}
use Rattle.program_nodes.proofs.ProgramNodes.{at_start, start_sourced}
use Rattle.program_nodes.proofs.RowValues.{IsValued, row_values, valued_front}

module _ (ps : List Param) (params : AllByRecursion IsParam ps) (inputs : List ℕ)
    (within : AreWithin inputs (input_bounds ps)) (start : Start) (val : ℕ → ℕ)
    (given : (param word : ℕ) → start.inputs param word ≡ input_word ps inputs param word) where
  -- ---- operands

  module _ (values : List ℕ) (bits : List Bool) where
    operand_value : (t : List Node) → IsTable t → IsGrown (IsProgramForm ps) t → AreNodesOf t bits values
        → (o : Operand) → IsOperand ps (length bits) o → IsValued ps start val (operand_made ps values t o).table
        → map val (operand_made ps values t o).numbers ≡ operand_word ps inputs (map val values) o ∷ []
    operand_value t table grown are (operands.Literal n) h v = all_made_values (IsProgramForm ps) t (forms.Const n ∷ [])
        table grown (h, tt) (tt, tt) start val (tt, tt) v.valuation v.sound
    operand_value t table grown are (operands.Input param word) h v =
        let same = given param word in
        let lies = input_within ps inputs within params param word h in
        let low = lies.low in let high = lies.high in
        all_made_values (IsProgramForm ps) t (input_form ps param word ∷ []) table grown
        (bounds_word ps params param word, tt) ((refl, h), tt) start val ((omega arith, omega arith), tt) v.valuation
        v.sound
        ∙ (λ i. same i ∷ [])
    operand_value t table grown are (operands.Value number) h v =
        let many = as_many_nodes t bits values are in
        let e = get_or-map val values number 0 0 (omega arith) in
        λ i. sym e i ∷ []

    operands_values : (t : List Node) → IsTable t → IsGrown (IsProgramForm ps) t → AreNodesOf t bits values
        → (os : List Operand) → AllByRecursion (IsOperand ps (length bits)) os
        → IsValued ps start val (operands_made ps values t os).table
        → map val (operands_made ps values t os).numbers ≡ map (operand_word ps inputs (map val values)) os
    operands_values t table grown are [] h v = refl
    operands_values t table grown are (o ∷ os) h v =
        let u = operand_made ps values t o in
        let first = operand_grows ps params values bits t table grown o h.0 in
        let w = operands_made ps values u.table os in
        let rest = operands_grow ps params values bits u.table first.table first.grown os h.1 in
        let here = operand_value t table grown are o h.0
        (valued_front ps start val u.table w.table (length os) rest v) in
        let more = operands_values u.table first.table first.grown (nodes_later t u.table bits values first.prefix are)
        os h.1 v in
        map-append val u.numbers w.numbers ∙ (λ i. here i ++ more i)

  -- ---- operations

  op_value : (values : List ℕ) (bits : List Bool) (t : List Node) → IsTable t → IsGrown (IsProgramForm ps) t
      → AreNodesOf t bits values → (op : Op) → IsOp ps bits op → IsValued ps start val (op_made ps values t op).table
      → map val (op_made ps values t op).numbers ≡ op_words ps inputs (map val values) op
  unfolding op_made
  op_value values bits t table grown are op is v =
      let args = operands_made ps values t op.args in
      let first = operands_grow ps params values bits t table grown op.args is.reads in
      let nodes = operands_nodes ps params values bits t table grown are op.args is.reads in
      let has = operand_nodes_of ps bits args.table args.numbers op is nodes in
      let a = slice_index args.numbers 0 in let b = slice_index args.numbers 1 in let c = slice_index args.numbers 2 in
      let told = map (is_bit_by ps bits) op.args in
      let results = results_made op.kind args.table a b c in
      let grows = row_grows ps args.table first.table first.grown op.kind is.count a b c has in
      let words = operands_values values bits t table grown are op.args is.reads
      (valued_front ps start val args.table results.table 3 grows v) in
      let many = as_many_nodes args.table told args.numbers nodes in
      let count = length-map op.args (is_bit_by ps bits) in
      let wants = is.arguments in
      row_values ps start val args.table first.table first.grown op.kind is.count args.numbers (omega arith)
      (some_operand op.kind) has v
      ∙ ap (results_of op.kind) words

  ops_values : (ops : List Op) (bits : List Bool) (m : AllMade) → AreOps ps bits ops → AreSourced ps bits m
      → IsValued ps start val (fold (and_op ps) m ops).table
      → map val (fold (and_op ps) m ops).numbers ≡ values_on ps inputs (map val m.numbers) ops
  ops_values [] bits m are so v = refl
  ops_values (op ∷ ops) bits m are so v =
      let n = and_op ps m op in
      let next = step_sourced ps params bits m op are.0 so in
      let rest = ops_grow ps params ops (bits ++ op_bits ps bits op) n are.1 next in
      let here = op_value m.numbers bits m.table so.table so.grown so.nodes op are.0
      (valued_front ps start val n.table (fold (and_op ps) n ops).table (6 * length ops) rest v) in
      let both : map val n.numbers ≡ map val m.numbers ++ op_words ps inputs (map val m.numbers) op =
      map-append val m.numbers (op_made ps m.numbers m.table op).numbers
      ∙ ap (λ (xs : List ℕ). map val m.numbers ++ xs) here in
      ops_values ops (bits ++ op_bits ps bits op) n are.1 next v
      ∙ ap (λ (xs : List ℕ). values_on ps inputs xs ops) both

-- ---- programs

-- the words of the values' nodes, in order
pub source_words : (program : Source) (inputs : List ℕ) (start : Start) (val : ℕ → ℕ) → IsAccepted program
    → IsRunOn program inputs start val → map val (source_made program).numbers ≡ values_of program inputs
unfolding source_made
source_words program inputs start val accepted run =
    ops_values program.params accepted.params inputs run.within start val run.given program.ops []
    (at_start program.params) accepted.ops (start_sourced program.params accepted.params)
    (record { valuation = run.valuation; sound = run.sound })
