-- A file that is no program.
use Rattle.std.proofs.Common.{ℕ, List, Option}
use Rattle.command_frame.specs.declared.format.Format.TheVariants as formats
use Rattle.command_frame.specs.declared.status.Status.{Status}
use Rattle.command_frame.specs.declared.status.Status.TheVariants as statuses
use Rattle.command_frame.specs.Files.{RefusesFile}

-- what refuses a program refuses a program that is to be digested
pub as_digested : (status : Status) (told : Option (List ℕ)) → RefusesFile status formats.Program told
    → RefusesFile status formats.DigestedProgram told
as_digested statuses.NotJson told cause = cause
as_digested (statuses.Program code place) told cause = cause
as_digested statuses.OutOfMemory told cause = cause
as_digested status told cause = absurd cause
