-- The end of the command, from the end of its one load.
use Rattle.command_frame.proofs.Ending.{at_load, after_load, written}
use Rattle.search_top.proofs.search_command.search_file.Goals as goal

pub returns-in-Err : goal.returns-in-Err
returns-in-Err g c = at_load _ _ _ _ _ _ _ c.in-Err.ensures.refused

pub returns-in-Ok-opening_of : goal.returns-in-Ok-opening_of
returns-in-Ok-opening_of g c =
    after_load _ _ _ _ _ c.in-Ok-load_program.ensures.program _ _ _ _ _
    (written _ _ _ _ _ _
    (rw (c.as_slice.ensures.value, c.as_bytes.ensures.value) c.in-Ok-opening_of.ensures)
    c.store_and_say.ensures.writes c.store_and_say.ensures.others)
