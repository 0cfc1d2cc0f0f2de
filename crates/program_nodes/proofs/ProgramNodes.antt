-- What every program's table of nodes keeps.
use Rattle.std.proofs.Common.{◌≡◌, ℕ, ◌+◌, ◌*◌, ◌<◌, ◌≤◌, Bool, false, List, [], ◌∷◌, ◌++◌, length, map, refl, ◌∙◌}
use Rattle.std.proofs.Common.{arith}
use Rattle.std.specs.Prelude.{fold, slice_index, slice_index_or}
use Rattle.std.specs.List.{AllByRecursion}
use Rattle.std.proofs.lemmas.List.{length-append}
use Rattle.word_operations.specs.declared.kind.Kind.{Kind}
use Rattle.word_operations.specs.declared.kind.Kind.TheVariants.{AddCarry, SubBorrow, MulX, CMov, Add, Sub, Mul, And}
use Rattle.word_operations.specs.declared.kind.Kind.TheVariants.{Or, Xor, Not, Copy, Shl, Shr, Shrd}
use Rattle.word_operations.specs.Operations.{bits_on, result_count}
use Rattle.word_program.specs.declared.parameter.Param.{Param}
use Rattle.word_program.specs.declared.operation.Op.{Op}
use Rattle.word_program.specs.Program.{Source}
use Rattle.word_program.specs.Values.{bits_of, is_bit_by, op_bits, targets_of}
use Rattle.word_program.specs.Accepted.{AreOps, IsAccepted, IsParam}
use Rattle.terms.specs.Tables.{IsTable}
use Rattle.terms.specs.Grown.{IsGrown}
use Rattle.term_store.specs.Interning.{AllMade, made_all}
use Rattle.program_nodes.specs.Operands.{IsNodeOf, IsProgramForm}
use Rattle.program_nodes.specs.Sources.{and_op, source_made, start_forms}
use Rattle.program_nodes.proofs.Growing.{Grows, all_made_grows}
use Rattle.program_nodes.proofs.SourceTables.{AreSourced, as_many_nodes, few_start_forms, node_of_number, ops_grow}
use Rattle.program_nodes.proofs.SourceTables.{ops_sourced, start_forms_fit, start_forms_have, step_grows}
use Rattle.program_nodes.proofs.SourceTables.{step_sourced}
use Rattle.term_store.proofs.Growth.{grown_empty}
use Rattle.term_store.proofs.Index.{empty_table}

-- ---- the start

-- what stands before the first operation
abbrev pub at_start : List Param → AllMade
at_start params = record { table = (made_all [] (start_forms params)).table; numbers = [] }

pub start_grows : (params : List Param) → AllByRecursion IsParam params
    → Grows (IsProgramForm params) [] (length (start_forms params)) (made_all [] (start_forms params)).table
start_grows params all = all_made_grows (IsProgramForm params) [] (start_forms params) empty_table
    (grown_empty (IsProgramForm params)) (start_forms_fit params all) (start_forms_have params all)

pub start_sourced : (params : List Param) → AllByRecursion IsParam params → AreSourced params [] (at_start params)
start_sourced params all = let g = start_grows params all in record { table = g.table; grown = g.grown; nodes = tt }

-- ---- the whole program

module _ (program : Source) (accepted : IsAccepted program) where
  pub source_sourced : AreSourced program.params (bits_of program.params program.ops) (source_made program)
  unfolding source_made
  source_sourced = ops_sourced program.params accepted.params program.ops [] (at_start program.params) accepted.ops
      (start_sourced program.params accepted.params)

  -- the table goes on from what stands at the start
  pub source_grows : Grows (IsProgramForm program.params) (made_all [] (start_forms program.params)).table
      (6 * length program.ops) (source_made program).table
  unfolding source_made
  source_grows = ops_grow program.params accepted.params program.ops [] (at_start program.params) accepted.ops
      (start_sourced program.params accepted.params)

  pub source_few : length (source_made program).table ≤ 16 + 192 + 6 * 2048
  source_few =
      let all = source_grows.few in
      let start = (start_grows program.params accepted.params).few in
      let few = few_start_forms program.params accepted.params accepted.params_limit in
      let ops = accepted.ops_limit in
      omega arith

  pub source_table : IsTable (source_made program).table
  source_table = source_sourced.table

  pub source_grown : IsGrown (IsProgramForm program.params) (source_made program).table
  source_grown = source_sourced.grown

-- ---- as many nodes as values

as_many_bits : (kind : Kind) (p q r : Bool) → length (bits_on kind p q r) ≡ result_count kind
as_many_bits AddCarry p q r = refl
as_many_bits SubBorrow p q r = refl
as_many_bits MulX p q r = refl
as_many_bits CMov p q r = refl
as_many_bits Add p q r = refl
as_many_bits Sub p q r = refl
as_many_bits Mul p q r = refl
as_many_bits And p q r = refl
as_many_bits Or p q r = refl
as_many_bits Xor p q r = refl
as_many_bits Not p q r = refl
as_many_bits Copy p q r = refl
as_many_bits (Shl k) p q r = refl
as_many_bits (Shr k) p q r = refl
as_many_bits (Shrd k) p q r = refl

bits_of_ops : (ps : List Param) (ops : List Op) (bits : List Bool) → AreOps ps bits ops
    → length (fold (λ bs op. bs ++ op_bits ps bs op) bits ops) ≡ length bits + length (targets_of ops)
bits_of_ops ps [] bits are = omega arith
bits_of_ops ps (op ∷ ops) bits are =
    let more = op_bits ps bits op in
    let rest = bits_of_ops ps ops (bits ++ more) are.1 in
    let here = length-append bits more in
    let told = map (is_bit_by ps bits) op.args in
    let some : length more ≡ result_count op.kind = as_many_bits op.kind (slice_index_or told 0 _)
    (slice_index_or told 1 _) (slice_index_or told 2 _) in
    let results = are.0.results in
    let all = length-append op.targets (targets_of ops) in
    omega arith

pub many_bits : (program : Source) → IsAccepted program
    → length (bits_of program.params program.ops) ≡ length (targets_of program.ops)
many_bits program accepted =
    let e = bits_of_ops program.params program.ops [] accepted.ops in omega arith

-- as many nodes as values
pub many_nodes : (program : Source) → IsAccepted program
    → length (source_made program).numbers ≡ length (targets_of program.ops)
many_nodes program accepted =
    as_many_nodes (source_made program).table (bits_of program.params program.ops) (source_made program).numbers
    (source_sourced program accepted).nodes
    ∙ many_bits program accepted

-- the node of a value, which is at most 1 where the value is a bit
pub value_node : (program : Source) → IsAccepted program → (n : ℕ) → n < length (targets_of program.ops)
    → IsNodeOf (source_made program).table (slice_index_or (bits_of program.params program.ops) n false)
    (slice_index (source_made program).numbers n)
value_node program accepted n h =
    let many = many_bits program accepted in
    node_of_number (source_made program).table (bits_of program.params program.ops) (source_made program).numbers
    (source_sourced program accepted).nodes n (omega arith)

-- ---- along the operations

-- what stands before the operations that are left
pub record IsBehind (params : List Param) (m : AllMade) (ops : List Op) : Type 0 where
  pub bits : List Bool
  pub legal : AreOps params bits ops
  pub so : AreSourced params bits m

pub behind_next : (params : List Param) → AllByRecursion IsParam params → (m : AllMade) (op : Op) (ops : List Op)
    → IsBehind params m (op ∷ ops) → IsBehind params (and_op params m op) ops
behind_next params all m op ops b = record {
  bits = b.bits ++ op_bits params b.bits op;
  legal = b.legal.1;
  so = step_sourced params all b.bits m op b.legal.0 b.so;
}

pub behind_few : (params : List Param) → AllByRecursion IsParam params → (m : AllMade) (op : Op) (ops : List Op)
    → IsBehind params m (op ∷ ops) → length (and_op params m op).table ≤ length m.table + 6
behind_few params all m op ops b = (step_grows params all b.bits m op b.legal.0 b.so).few
