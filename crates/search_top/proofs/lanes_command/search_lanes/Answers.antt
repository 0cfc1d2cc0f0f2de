-- The end of the command, from the end of its one load.
use Rattle.command_frame.proofs.Ending.{at_load, after_load, written}
use Rattle.search_top.proofs.lanes_command.search_lanes.Goals as goal

pub returns-in-Err : goal.returns-in-Err
returns-in-Err g c = at_load _ _ _ _ _ _ _ c.in-Err.ensures.refused

pub returns-in-Ok-found : goal.returns-in-Ok-found
returns-in-Ok-found g c =
    after_load _ _ _ _ _ c.in-Ok-load_digested_program.ensures.program _ _ _ _ _
    (written _ _ _ _ _ _
    (rw (c.as_slice.ensures.value, c.as_slice-in-Ok-found.ensures.value, c.as_bytes.ensures.value)
    c.in-Ok-found.ensures)
    c.store_both_and_say.ensures.writes c.store_both_and_say.ensures.others)
