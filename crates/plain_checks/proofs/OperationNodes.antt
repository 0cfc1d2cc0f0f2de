-- The nodes of each operation of an accepted program.
use Rattle.std.proofs.Common.{◌≡◌, ℕ, suc, ◌+◌, ◌<◌, Bool, List, [], ◌++◌, length, map, Some, sym, ap, ◌∙◌}
use Rattle.std.proofs.Common.{arith}
use Rattle.std.specs.Prelude.{slice_get, slice_index}
use Rattle.std.proofs.lemmas.List.{get_or-append-add, get_or_append_left, length-append, length-map}
use Rattle.word_program.specs.declared.operation.Op.{Op}
use Rattle.word_program.specs.declared.operation.Operand.{Operand}
use Rattle.word_program.specs.declared.operation.Operand.TheVariants as operands
use Rattle.word_program.specs.Program.{Source}
use Rattle.word_program.specs.Values.{is_bit_by}
use Rattle.word_program.specs.Accepted.{IsAccepted}
use Rattle.terms.specs.Tables.{Prefix}
use Rattle.term_store.specs.Interning.{AllMade}
use Rattle.term_store.proofs.Prefixes.{prefix_length, prefix_trans}
use Rattle.program_nodes.specs.Operands.{AreNodesOf, AreOperandNodes, IsProgramForm}
use Rattle.program_nodes.specs.Sources.{op_made, operands_made, results_made, source_made}
use Rattle.program_nodes.proofs.Growing.{Grows}
use Rattle.program_nodes.proofs.ProgramNodes.{at_start, many_nodes, start_sourced}
use Rattle.program_nodes.proofs.SourceRows.{row_grows}
use Rattle.program_nodes.proofs.SourceTables.{as_many_nodes, node_of_number, operand_nodes_of, operands_grow}
use Rattle.program_nodes.proofs.SourceTables.{operands_nodes}
use Rattle.dependency_graph.specs.Needs.{first_value}
use Rattle.plain_checks.proofs.Nodes.{HasResults, IsOperandNode, OpNodes, operand_at, table_of, value_node}
use Rattle.plain_checks.proofs.OperationPlaces.{Comes, comes, many_made, results_among, results_behind, target_there}
use Rattle.plain_checks.proofs.SourceOperands.{IsOperandIn, operands_there}
use Rattle.plain_checks.proofs.SourceResults.{results_there}

module _ (program : Source) (accepted : IsAccepted program) where
  operand_node : (o : Operand) (n : ℕ) → IsOperandIn program.params (source_made program) o n
      → IsOperandNode program o n
  operand_node (operands.Literal word) n is = is
  operand_node (operands.Input param word) n is = is
  operand_node (operands.Value value) n is = (omega (arith, is.0, many_nodes program accepted), is.1)

  module _ (number : ℕ) (op : Op) (there : slice_get program.ops number ≡ Some op) where
    -- what is made before it
    stands : Comes program.params (at_start program.params) program.ops number op
    stands = comes program.params accepted.params (at_start program.params) [] program.ops accepted.ops
        (start_sourced program.params accepted.params) number op there

    abbrev args : AllMade
    args = operands_made program.params stands.before.numbers stands.before.table op.args

    -- the nodes of its operands by their places
    abbrev args_of : ℕ → ℕ
    args_of place = slice_index args.numbers place

    abbrev results : AllMade
    results = results_made op.kind args.table (args_of 0) (args_of 1) (args_of 2)

    results_front : Prefix results.table (table_of program)
    unfolding source_made op_made
    results_front = stands.later

    all_numbers : (source_made program).numbers ≡ stands.before.numbers ++ (results.numbers ++ stands.more)
    unfolding source_made op_made
    all_numbers = stands.numbers

    -- ---- its operands

    abbrev told : List Bool
    told = map (is_bit_by program.params stands.bits) op.args

    args_nodes : AreNodesOf args.table told args.numbers
    args_nodes = operands_nodes program.params accepted.params stands.before.numbers stands.bits stands.before.table
        stands.so.table stands.so.grown stands.so.nodes op.args stands.legal.reads

    args_grow : Grows (IsProgramForm program.params) stands.before.table (length op.args) args.table
    args_grow = operands_grow program.params accepted.params stands.before.numbers stands.bits stands.before.table
        stands.so.table stands.so.grown op.args stands.legal.reads

    args_are : AreOperandNodes args.table op.kind (args_of 0) (args_of 1) (args_of 2)
    args_are = operand_nodes_of program.params stands.bits args.table args.numbers op stands.legal args_nodes

    args_front : Prefix args.table (table_of program)
    args_front =
        let grows = row_grows program.params args.table args_grow.table args_grow.grown op.kind stands.legal.count
        (args_of 0) (args_of 1) (args_of 2) args_are in
        prefix_trans grows.prefix results_front

    -- the values before it keep their nodes
    kept : (v : ℕ) → v < length stands.bits → (v < length (source_made program).numbers)
        × (slice_index (source_made program).numbers v ≡ slice_index stands.before.numbers v)
    kept v h =
        let many = as_many_nodes stands.before.table stands.bits stands.before.numbers stands.so.nodes in
        let here : v < length stands.before.numbers = omega (arith, h, many) in
        let count = ap length all_numbers in (
          omega (arith, here, count, length-append stands.before.numbers (results.numbers ++ stands.more)),
          ap (λ (ns : List ℕ). slice_index ns v) all_numbers
              ∙ get_or_append_left stands.before.numbers (results.numbers ++ stands.more) 0 v here,
        )

    args_there : (place : ℕ) → place < length op.args
        → IsOperandNode program (operand_at op place) (args_of place)
    args_there place h = operand_node (operand_at op place) (args_of place)
        (operands_there program.params accepted.params stands.before.numbers stands.bits (source_made program) kept
        stands.before.table stands.so.table stands.so.grown op.args stands.legal.reads args_front place h)

    args_inside : (place : ℕ) → place < length op.args → args_of place < length (table_of program)
    args_inside place h =
        let many : length told ≡ length op.args = length-map op.args (is_bit_by program.params stands.bits) in
        let node = node_of_number args.table told args.numbers args_nodes place (omega (arith, h, many)) in
        omega (arith, node.inside, prefix_length args_front)

    -- ---- its results

    many_results : length results.numbers ≡ length op.targets
    unfolding op_made
    many_results = many_made program.params stands.before stands.bits op stands.legal

    result_node : (place value : ℕ) → place < length op.targets → value ≡ first_value program number + place
        → slice_index results.numbers place ≡ value_node program value
    unfolding first_value
    result_node place value h e =
        let first : length stands.before.numbers ≡ first_value program number = omega (arith, stands.first) in
        let behind : value ≡ length stands.before.numbers + place = omega (arith, e, first) in
        sym (ap (λ (ns : List ℕ). slice_index ns value) all_numbers
        ∙ ap (slice_index (stands.before.numbers ++ (results.numbers ++ stands.more))) behind
        ∙ get_or-append-add stands.before.numbers (results.numbers ++ stands.more) place 0
        ∙ get_or_append_left results.numbers stands.more 0 place (omega (arith, h, many_results)))

    results_are : HasResults (table_of program) op.kind (args_of 0) (args_of 1) (args_of 2)
        (value_node program (first_value program number)) (value_node program (suc (first_value program number)))
    results_are =
        let many = stands.legal.results in
        results_there op.kind (args_of 0) (args_of 1) (args_of 2) args_grow.table stands.legal.count args_are
        results_front
        (λ h. result_node 0 (first_value program number) (omega (arith, h, many)) (omega arith))
        (λ h. result_node 1 (suc (first_value program number)) (omega (arith, h, many)) (omega arith))

    nodes : OpNodes program number op args_of
    unfolding first_value
    nodes = record {
      shift = stands.legal.count;
      arguments = stands.legal.arguments;
      targets = stands.legal.results;
      within = results_among program.ops number op there;
      next = results_behind program.ops number op there;
      target_at = λ place h. target_there program.ops number place op there h;
      operands = args_there;
      inside = args_inside;
      results = results_are;
    }

  pub op_nodes : (number : ℕ) (op : Op) → slice_get program.ops number ≡ Some op
      → (args : ℕ → ℕ) × OpNodes program number op args
  op_nodes number op there = (args_of number op there, nodes number op there)
