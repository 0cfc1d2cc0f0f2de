-- The end of `emulate`, from that of its work on the words of its list.
use Rattle.std.proofs.Common.{sym}
use Rattle.search_top.proofs.commands.command.Goals as goal

pub returns-in-Ok-Some-Emulate-clause-answer : goal.returns-in-Ok-Some-Emulate-clause-answer
returns-in-Ok-Some-Emulate-clause-answer g c =
    rw (sym c.in-Ok-Some-Emulate.ensures.command, c.in-Ok-Some-Emulate.field-0-is, c.in-Ok-Some-Emulate.field-0-0-is)
    (rw (sym c.items-in-Ok-Some-Emulate.ensures) c.emulate_file.ensures)
