-- The last place of a definer, over all operands.
use Rattle.std.proofs.Common.{◌≡◌, ◌+◌, List, length, get_or, drop, ap, sym, ◌∙◌, subst, arith}
use Rattle.std.proofs.lemmas.Grind.{common_steps}
use Rattle.std.proofs.lemmas.List.{drop_more, drop_all}
use Rattle.std.specs.Prelude.{max}
use Rattle.std.specs.List.{AllByRecursion}
use Rattle.word_program.specs.declared.operation.Operand.{Operand}
use Rattle.word_program.specs.declared.operation.Operand.TheVariants as operands
use Rattle.word_program.specs.Values.{targets_of}
use Rattle.op_order.specs.Windows.{IsDefinedAmong}
use Rattle.op_order.proofs.Definers.{all_at, args_defined, past_givers, past_givers-nil, past_givers-cons, max_first}
use Rattle.op_order.proofs.Definers.{max_last, max_more, needed_are_givers}
use Rattle.op_order.proofs.windows.low.Goals as goal

pub loop-operand-init : goal.loop-operand-init
loop-operand-init c = max_first (past_givers c.args.program.now c.args.slots.now c.items-operand-items.result.now)

pub past_giver-requires : goal.past_giver-requires
past_giver-requires c =
    let program = c.args.program.now in
    let values = length (targets_of program.ops) in
    let same = c.items-operand-items.ensures ∙ ap
    (λ ops. (get_or ops c.args.op c.index-ops-op.result).args) c.ops.ensures.ops in
    let all = args_defined program c.ops.ensures.accepted.ops c.args.op c.index-ops-op.result c.requires in
    all_at (IsDefinedAmong values) c.items-operand-items.result.now c.loop-operand.operand-index (operands.Literal 0)
    (subst (λ (args : List Operand). AllByRecursion (IsDefinedAmong values) args) (sym same) all)
    c.loop-operand-test.true

pub loop-operand-preserved : goal.loop-operand-preserved
loop-operand-preserved c =
    let program = c.args.program.now in
    let slots = c.args.slots.now in
    let items = c.items-operand-items.result.now in
    let index = c.loop-operand.operand-index in
    let now = ap (past_givers program slots) (drop_more items index (operands.Literal 0) c.loop-operand-test.true)
    ∙ past_givers-cons program slots (get_or items index (operands.Literal 0)) (drop (index + 1) items) in
    let higher : c.max-low.result ≡ max c.loop-operand.low c.past_giver.result = grind (arith, common_steps) in
    let definer_of_operand = c.past_giver.ensures in
    max_more c.loop-operand.low c.past_giver.result (past_givers program slots (drop (index + 1) items))
    (past_givers program slots items) c.max-low.result higher
    (ap (λ n. max c.loop-operand.low (max n (past_givers program slots (drop (index + 1) items)))) definer_of_operand
    ∙ ap (max c.loop-operand.low) (sym now) ∙ c.loop-operand.invariant)

pub returns : goal.returns
returns c =
    let program = c.args.program.now in
    let slots = c.args.slots.now in
    let items = c.items-operand-items.result.now in
    let same = c.items-operand-items.ensures ∙ ap
    (λ ops. (get_or ops c.args.op c.index-ops-op.result).args) c.ops.ensures.ops in
    let none = ap (past_givers program slots) (drop_all c.loop-operand.operand-index items c.loop-operand-test.false)
    ∙ past_givers-nil program slots in
    sym (max_last c.loop-operand.low) ∙ ap (λ n. max c.loop-operand.low n) (sym none) ∙ c.loop-operand.invariant
    ∙ ap (past_givers program slots) same ∙ sym
    (needed_are_givers program slots c.args.op c.index-ops-op.result c.requires)
