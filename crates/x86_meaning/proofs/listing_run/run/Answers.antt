-- That a run keeps the addresses of the memory, where it ends and where it is stuck.
use Rattle.std.proofs.Common.{◌+◌, ap, drop, ◌∙◌}
use Rattle.std.specs.Prelude.{is_some}
use Rattle.std.specs.FinMap as map
use Rattle.x86_meaning.proofs.Addresses.{from_between, stuck_state}
use Rattle.x86_meaning.proofs.listing_run.run.Goals as goal

pub returns-then-is_ret-clause-addresses : goal.returns-then-is_ret-clause-addresses
returns-then-is_ret-clause-addresses c =
    let ls = c.lines-lines.result.now in let n = c.loop-number.number in
    from_between ls (drop n ls) (n + 1) c.args.state.now c.loop-number.state c.loop-number.invariant

pub returns-then-not-step-clause-addresses : goal.returns-then-not-step-clause-addresses
returns-then-not-step-clause-addresses c address =
    let ls = c.lines-lines.result.now in let n = c.loop-number.number in
    ap (λ u. is_some (map.get u.cells address))
    (stuck_state c.step.result _ _ c.loop-number.state c.step.new.state c.if-not-step.true c.step.ensures)
    ∙ from_between ls (drop n ls) (n + 1) c.args.state.now c.loop-number.state c.loop-number.invariant address

pub returns-clause-addresses : goal.returns-clause-addresses
returns-clause-addresses c =
    let ls = c.lines-lines.result.now in let n = c.loop-number.number in
    from_between ls (drop n ls) (n + 1) c.args.state.now c.loop-number.state c.loop-number.invariant
