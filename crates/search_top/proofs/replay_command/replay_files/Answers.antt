-- The end of the command, from the end of its three loads.
use Rattle.std.proofs.Common.{sym, subst, [], ◌∷◌}
use Rattle.command_frame.specs.Files.{DigestedProgram, Journal, Listing}
use Rattle.command_frame.specs.Writes.{says}
use Rattle.command_frame.proofs.Ending.{at_load, at_work, after_load, written}
use Rattle.search_top.specs.Replay.{ReplayMeans}
use Rattle.search_top.proofs.replay_command.replay_files.Goals as goal

pub returns-in-Err : goal.returns-in-Err
returns-in-Err g c = at_load _ _ _ _ _ _ _ c.in-Err.ensures.refused

pub returns-in-Err-load_journal : goal.returns-in-Err-load_journal
returns-in-Err-load_journal g c =
    after_load _ _ _ _ _ c.in-Ok-load_digested_program.ensures.program _ _ _ _ _
    (at_load _ _ _ _ _ _ _ c.in-Err-load_journal.ensures.refused)

pub returns-in-Err-load_listing : goal.returns-in-Err-load_listing
returns-in-Err-load_listing g c =
    after_load _ _ _ _ _ c.in-Ok-load_digested_program.ensures.program _ _ _ _ _
    (after_load _ _ _ _ _ c.in-Ok-load_journal.ensures.journal _ _ _ _ _
    (at_load _ _ _ _ _ _ _ c.in-Err-load_listing.ensures.refused))

pub returns-in-Ok-text : goal.returns-in-Ok-text
returns-in-Ok-text g c =
    after_load _ _ _ _ _ c.in-Ok-load_digested_program.ensures.program _ _ _ _ _
    (after_load _ _ _ _ _ c.in-Ok-load_journal.ensures.journal _ _ _ _ _
    (after_load _ _ _ _ _ c.in-Ok-load_listing.ensures.listing _ _ _ _ _
    (written _ _ _ _ _ _
    (subst (λ word. ReplayMeans
    (DigestedProgram c.in-Ok-load_digested_program.program.program c.in-Ok-load_digested_program.program.digest
    ∷ Journal c.in-Ok-load_journal.journal ∷ Listing c.in-Ok-load_listing.listing ∷ [])
    (says word)) (sym c.as_bytes.ensures.value) c.in-Ok-text.ensures.text)
    c.say_text.ensures.writes c.say_text.ensures.others)))

pub returns-in-Err-text : goal.returns-in-Err-text
returns-in-Err-text g c =
    after_load _ _ _ _ _ c.in-Ok-load_digested_program.ensures.program _ _ _ _ _
    (after_load _ _ _ _ _ c.in-Ok-load_journal.ensures.journal _ _ _ _ _
    (after_load _ _ _ _ _ c.in-Ok-load_listing.ensures.listing _ _ _ _ _
    (at_work _ _ _ _ _ c.in-Err-text.ensures.refused)))
