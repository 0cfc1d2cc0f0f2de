-- Before any entry.
use Rattle.std.proofs.Common.{length, map, refl, ap, ◌∙◌}
use Rattle.std.specs.List.{range_with_len}
use Rattle.journal_replay.specs.Checks.{setup_in}
use Rattle.journal_replay.specs.Inside.{fresh}
use Rattle.journal_replay.proofs.StepFacts.{begun}
use Rattle.journal_replay.proofs.player.Player.begin.Goals as goal

pub returns : goal.returns
returns c =
    let count = length c.items.result.now in
    let room = length c.ops.result.now in
    begun (setup_in c.args.program.now c.args.journal.now) c.args.journal.now.entries count room _
    (ap length c.items.ensures)
    (c.in_ok-lanes.ensures ∙ ap (λ es. map (fresh es room) (range_with_len 0 count)) c.items-2.ensures)
    (ap length c.ops.ensures.ops) refl refl c.in_ok-plan.ensures.slots c.in_ok-plan.ensures.legal
    c.in_ok-plan.ensures.room (ap (λ p. p.room) c.in_ok-scratch.ensures)
