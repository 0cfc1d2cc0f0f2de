-- How the code shares its loads: what one load did. No part of a promise.
use Rattle.std.specs.Prelude.{◌≡◌, ◌≤◌, List, length, ℕ, IfSome}
use Rattle.command_frame.specs.declared.status.Status.{Status}
use Rattle.command_frame.specs.Change.{Change, HasCalls, IsUntouched}
use Rattle.command_frame.specs.Files.{Load, Content, IsRead, FailsToLoad, limit_of}

-- the file has these bytes, where it is told, and they are not too many
pub record Fits (load : Load) (bytes : List ℕ) (change : Change) : Type 0 where
  pub told : IfSome (change.before.held load.name) (λ b. bytes ≡ b)
  pub within : length bytes ≤ limit_of load.format
  pub untouched : IsUntouched change
  pub calls : HasCalls change 1
  pub later : change.before.faults ≤ change.after.faults

-- this was read from the file
pub record Loads (load : Load) (content : Content) (change : Change) : Type 0 where
  pub read : IsRead load.format (change.before.held load.name) content
  pub untouched : IsUntouched change
  pub calls : HasCalls change 1
  pub later : change.before.faults ≤ change.after.faults

-- nothing was read from it, for this cause
pub record Fails (load : Load) (change : Change) (status : Status) : Type 0 where
  pub cause : FailsToLoad load change status
  pub untouched : IsUntouched change
  pub calls : HasCalls change 1
