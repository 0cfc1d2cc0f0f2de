-- The end of the command, from the end of its one load.
use Rattle.std.proofs.Common.{ap, ◌∙◌}
use Rattle.command_frame.specs.Writes.{says}
use Rattle.command_frame.proofs.Ending.{at_load, after_load, written}
use Rattle.search_top.proofs.show_command.show_file.Goals as goal

pub returns-in-Err : goal.returns-in-Err
returns-in-Err g c = at_load _ _ _ _ _ _ _ c.in-Err.ensures.refused

pub returns-in-Ok-write : goal.returns-in-Ok-write
returns-in-Ok-write g c =
    after_load _ _ _ _ _ c.in-Ok-load_listing.ensures.listing _ _ _ _ _
    (written _ _ _ _ _ _ (ap says (c.as_slice.ensures.value ∙ c.in-Ok-write.ensures.text)) c.say_text.ensures.writes
    c.say_text.ensures.others)
