-- The listing is checked behind the journal.
use Rattle.std.proofs.Common.{ap, ◌∙◌}
use Rattle.journal_replay.proofs.ListingFaults.{listing_fault}
use Rattle.journal_replay.proofs.replaying.replay_on.Goals as goal

pub returns-in-Err : goal.returns-in-Err
returns-in-Err c =
    listing_fault c.args.prepared.now c.deref.result.now c.deref-2.result.now c.deref-3.result.now c.args.journal.now
    c.args.listing.now c.in-Ok.named c.in_ok-player.player c.into_plan.result.slots c.least-recorded.result
    c.in-Err.fault (c.deref.ensures ∙ c.program.ensures) (c.deref-2.ensures ∙ c.program-2.ensures)
    (c.deref-3.ensures ∙ c.program-3.ensures) c.in_ok-check_opening.ensures c.in_ok-player.ensures c.in-Ok.ensures
    (ap (λ p. p.slots) c.into_plan.ensures) c.least-recorded.ensures c.in-Err.ensures
