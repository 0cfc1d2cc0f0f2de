-- `clap` accepts the words, or refuses them for another cause than want of memory.
use Rattle.std.proofs.Common.{◌∙◌}
use Rattle.command_line.proofs.Rows.{rows_at_ok, rows_at_err}
use Rattle.command_line.proofs.parsing.matches_of.Goals as goal

pub returns-in-Ok : goal.returns-in-Ok
returns-in-Ok c = rows_at_ok _ _ _ c.in-Ok.matches c.in_ok-command.ensures c.requires c.in-Ok.ensures.kinds
    c.in-Ok.ensures.matches

pub returns : goal.returns
returns c = rows_at_err _ _ _ c.in-Err.error c.in_ok-command.ensures c.requires c.in-Err.ensures.kinds
    (λ memory. c.in_default.not-OutOfMemory (c.kind.ensures ∙ memory))
