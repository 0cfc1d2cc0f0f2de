-- What stands before the first operation is a table that forms of the program made.
use Rattle.std.proofs.Common.{◌≡◌, ◌≤◌, ◌+◌, [], List, length, sym, subst, arith}
use Rattle.std.specs.List.{AllByRecursion}
use Rattle.word_program.specs.declared.parameter.Param.{Param}
use Rattle.word_program.specs.Accepted.{IsAccepted, IsParam}
use Rattle.word_program.specs.Program.{Source}
use Rattle.terms.specs.declared.nodes.Node.{Node}
use Rattle.program_nodes.specs.Operands.{IsProgramForm}
use Rattle.program_nodes.proofs.Growing.{Grows}
use Rattle.program_nodes.proofs.FormSteps.{start_grown, starts_few}
use Rattle.program_nodes.proofs.source_nodes.source.Goals as goal

pub input_nodes-requires-clause-room : goal.input_nodes-requires-clause-room
input_nodes-requires-clause-room c =
    let few = starts_few c.args.store.now c.start_nodes.new.store c.requires c.in_ok-start_nodes.ensures in
    omega arith

-- the same of a program's parameters
begun : (program : Source) (params : List Param) → IsAccepted program → params ≡ program.params → (w : List Node)
    → ((all : AllByRecursion IsParam params) → length params ≤ 6 → Grows (IsProgramForm params) [] (16 + 192) w)
    → Grows (IsProgramForm params) [] (16 + 192) w
begun program params accepted e w f = f (subst (AllByRecursion IsParam) (sym e) accepted.params)
    (subst (λ (ps : List Param). length ps ≤ 6) (sym e) accepted.params_limit)

pub value_nodes-requires-clause-room : goal.value_nodes-requires-clause-room
value_nodes-requires-clause-room c =
    let few = (begun c.args.program.now c.params-params.result.now c.params-params.ensures.accepted
    c.params-params.ensures.params c.input_nodes.new.store (λ all few. start_grown _ all few _ _ _ c.requires
    c.in_ok-start_nodes.ensures c.in_ok-input_nodes.ensures)).few in
    omega arith

pub value_nodes-requires-clause-table : goal.value_nodes-requires-clause-table
value_nodes-requires-clause-table c =
    (begun c.args.program.now c.params-params.result.now c.params-params.ensures.accepted
    c.params-params.ensures.params c.input_nodes.new.store (λ all few. start_grown _ all few _ _ _ c.requires
    c.in_ok-start_nodes.ensures c.in_ok-input_nodes.ensures)).table

pub value_nodes-requires-clause-grown : goal.value_nodes-requires-clause-grown
value_nodes-requires-clause-grown c =
    (begun c.args.program.now c.params-params.result.now c.params-params.ensures.accepted
    c.params-params.ensures.params c.input_nodes.new.store (λ all few. start_grown _ all few _ _ _ c.requires
    c.in_ok-start_nodes.ensures c.in_ok-input_nodes.ensures)).grown
