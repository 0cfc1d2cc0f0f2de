-- The argument behind the operands is a shift count, and the operation is made of its parts as they were read.
use Rattle.std.proofs.Common.{◌∙◌, ap, length}
use Rattle.word_program.specs.Rules.{with_op}
use Rattle.word_program.proofs.BodyLemmas.{operation_is}
use Rattle.word_program.proofs.OpsKept.{counted}
use Rattle.word_program.proofs.body.operation.Goals as goal

pub returns-in-Ok-clause-state : goal.returns-in-Ok-clause-state
returns-in-Ok-clause-state c =
    c.in-Ok.ensures
    ∙ ap (λ op. with_op c.results.new.scope op) c.op_on-op.ensures
    ∙ operation_is _ _ _ _ _ _ _ _ c.items.ensures c.items-3.ensures c.in_ok-kind.ensures.value
    c.in_ok-operands.ensures.value c.in_ok-targets.ensures.value c.in_ok-targets.ensures.state

pub op_on-op-requires : goal.op_on-op-requires
op_on-op-requires c =
    counted _ _ _ _ _ c.in_ok-operands.ensures.fault
    (ap length c.items.ensures ∙ c.in_ok-kind.ensures.arguments) c.in_ok-operands.ensures.value
