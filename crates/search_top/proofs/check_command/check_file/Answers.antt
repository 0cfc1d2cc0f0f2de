-- The end of the command, from the end of its two loads.
use Rattle.std.proofs.Common.{sym, subst, [], ◌∷◌}
use Rattle.command_frame.specs.Files.{Program, Listing}
use Rattle.command_frame.specs.Writes.{says}
use Rattle.command_frame.proofs.Ending.{at_load, at_work, after_load, written}
use Rattle.search_top.specs.Check.{CheckMeans}
use Rattle.search_top.proofs.check_command.check_file.Goals as goal

pub returns-in-Err : goal.returns-in-Err
returns-in-Err g c = at_load _ _ _ _ _ _ _ c.in-Err.ensures.refused

pub returns-in-Err-load_listing : goal.returns-in-Err-load_listing
returns-in-Err-load_listing g c =
    after_load _ _ _ _ _ c.in-Ok-load_program.ensures.program _ _ _ _ _
    (at_load _ _ _ _ _ _ _ c.in-Err-load_listing.ensures.refused)

pub returns-in-Ok-text : goal.returns-in-Ok-text
returns-in-Ok-text g c =
    after_load _ _ _ _ _ c.in-Ok-load_program.ensures.program _ _ _ _ _
    (after_load _ _ _ _ _ c.in-Ok-load_listing.ensures.listing _ _ _ _ _
    (written _ _ _ _ _ _
    (subst (λ word. CheckMeans
    (Program c.in-Ok-load_program.program ∷ Listing c.in-Ok-load_listing.listing ∷ []) (says word))
    (sym c.as_bytes.ensures.value) c.in-Ok-text.ensures.text)
    c.say_text.ensures.writes c.say_text.ensures.others))

pub returns-in-Err-text : goal.returns-in-Err-text
returns-in-Err-text g c =
    after_load _ _ _ _ _ c.in-Ok-load_program.ensures.program _ _ _ _ _
    (after_load _ _ _ _ _ c.in-Ok-load_listing.ensures.listing _ _ _ _ _
    (at_work _ _ _ _ _ c.in-Err-text.ensures.refused))
