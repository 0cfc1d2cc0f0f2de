-- There is room for the plan of the entry, which is legal.
use Rattle.std.proofs.Common.{ap, arith}
use Rattle.op_order.proofs.LegalLemmas.{legal_count}
use Rattle.journal_replay.proofs.player.Player.improve.Goals as goal

pub copy_into-requires-2 : goal.copy_into-requires-2
copy_into-requires-2 c =
    let count = legal_count c.args.program.now _ c.apply.ensures.legal in
    let room = c.requires.plan in
    let same = ap (λ p. p.plan.room) c.self.view_is in
    omega arith
