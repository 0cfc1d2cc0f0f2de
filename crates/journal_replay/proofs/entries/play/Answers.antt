-- A legal journal that is not short is whole.
use Rattle.journal_replay.specs.Checks.{setup_in}
use Rattle.journal_replay.proofs.Counting.{whole_is}
use Rattle.journal_replay.proofs.entries.play.Goals as goal

pub returns : goal.returns
returns c =
    let played = c.in_default-play_entries.ensures in (
      played,
      whole_is (setup_in c.args.program.now c.args.journal.now) c.args.journal.now.entries played.legal
          (rw (c.items.ensures, c.items-count.ensures) at c.if-count-items.false),
    )
