-- The bounds that the two ends of a window ask for.
use Rattle.std.proofs.Common.{◌<◌, ◌≤◌, List, length, ap, sym, ◌∙◌, subst, arith}
use Rattle.std.specs.List.{All}
use Rattle.op_order.specs.declared.slot.Slot.{Slot}
use Rattle.op_order.specs.Plans.{op_at}
use Rattle.op_order.specs.Windows.{low_of, high_of}
use Rattle.op_order.proofs.LegalLemmas.{legal_op, legal_ops, legal_count}
use Rattle.op_order.proofs.WindowLaw.{low_below, high_is}
use Rattle.op_order.proofs.windows.window.Goals as goal

pub returns-clause-low : goal.returns-clause-low
unfolding low_of
returns-clause-low c = c.low.ensures ∙ ap
    (λ slots. low_of c.args.program.now slots c.args.at) c.slots-slots.ensures.slots

pub returns-clause-high : goal.returns-clause-high
unfolding high_of
returns-clause-high c = c.high.ensures ∙ ap
    (λ slots. high_of c.args.program.now slots c.args.at) c.slots-slots.ensures.slots

pub returns-clause-below : goal.returns-clause-below
unfolding low_of
returns-clause-below c =
    let is = c.low.ensures ∙ ap (λ slots. low_of c.args.program.now slots c.args.at) c.slots-slots.ensures.slots in
    let below = low_below c.args.program.now c.args.plan.now.slots c.args.at c.requires.legal c.requires.at in
    subst (λ n. n ≤ c.args.at) (sym is) below

pub returns-clause-above : goal.returns-clause-above
unfolding high_of
returns-clause-above c =
    let is = c.high.ensures ∙ ap (λ slots. high_of c.args.program.now slots c.args.at) c.slots-slots.ensures.slots in
    let high = high_is c.args.program.now c.args.plan.now.slots c.args.at c.requires.legal c.requires.at in
    subst (λ n. c.args.at ≤ n) (sym is) high.above

pub returns-clause-within : goal.returns-clause-within
unfolding high_of
returns-clause-within c =
    let is = c.high.ensures ∙ ap (λ slots. high_of c.args.program.now slots c.args.at) c.slots-slots.ensures.slots in
    let high = high_is c.args.program.now c.args.plan.now.slots c.args.at c.requires.legal c.requires.at in
    subst (λ n. n < length c.args.plan.now.slots) (sym is) high.within

pub overflow_cast-result : goal.overflow_cast-result
unfolding low_of
overflow_cast-result c =
    let is = c.low.ensures ∙ ap (λ slots. low_of c.args.program.now slots c.args.at) c.slots-slots.ensures.slots in
    let below = low_below c.args.program.now c.args.plan.now.slots c.args.at c.requires.legal c.requires.at in
    let few : length c.args.plan.now.slots ≤ 65535 = c.slots-slots.ensures.few in
    let at = c.requires.at in
    omega arith

pub overflow_cast-result-2 : goal.overflow_cast-result-2
unfolding high_of
overflow_cast-result-2 c =
    let is = c.high.ensures ∙ ap (λ slots. high_of c.args.program.now slots c.args.at) c.slots-slots.ensures.slots in
    let high = high_is c.args.program.now c.args.plan.now.slots c.args.at c.requires.legal c.requires.at in
    let within = high.within in
    let few : length c.args.plan.now.slots ≤ 65535 = c.slots-slots.ensures.few in
    omega arith

pub high-requires-clause-op : goal.high-requires-clause-op
high-requires-clause-op c =
    subst (λ (slots : List Slot). op_at slots c.args.at < length c.args.program.now.ops)
    (sym c.slots-slots.ensures.slots)
    (legal_op c.args.program.now c.args.plan.now.slots c.requires.legal c.args.at c.requires.at)

pub high-requires-clause-few : goal.high-requires-clause-few
high-requires-clause-few c =
    let count = legal_count c.args.program.now c.args.plan.now.slots c.requires.legal in
    let few : length c.args.plan.now.slots ≤ 65535 = c.slots-slots.ensures.few in
    omega arith

pub high-requires-clause-ops : goal.high-requires-clause-ops
high-requires-clause-ops c =
    subst (λ (slots : List Slot). All (λ slot. slot.op < length c.args.program.now.ops) slots)
    (sym c.slots-slots.ensures.slots)
    (legal_ops c.args.program.now c.args.plan.now.slots c.requires.legal)
