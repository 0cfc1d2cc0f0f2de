-- How every command ends, by cases of its status.
use Rattle.std.specs.Prelude.{◌≡◌, ◌⊎◌, ℕ, suc, ◌≤◌, List, [], ◌∷◌, length, take, slice_get, Option, Some}
use Rattle.command_frame.specs.declared.status.Status.{Status}
use Rattle.command_frame.specs.declared.status.Status.TheVariants as statuses
use Rattle.command_frame.specs.Change.{Change, HasCalls, IsUntouched}
use Rattle.command_frame.specs.Files.{Load, Content, IsRead, FailsToLoad}
use Rattle.command_frame.specs.Writes.{Output, Writes, OthersStay}

-- A command as its calls of the shelf: the files that it loads, in order, then those that it stores, in order,
-- and last one word on standard output.
pub record Calls : Type 0 where
  pub loads : List Load
  pub stores : List (List ℕ)

-- each file was read, and this was read from it
abbrev pub AreRead : List Load → (List ℕ → Option (List ℕ)) → List Content → Type 0
AreRead [] held [] = Unit {0}
AreRead [] held (content ∷ contents) = ⊥
AreRead (load ∷ loads) held [] = ⊥
AreRead (load ∷ loads) held (content ∷ contents) = IsRead load.format (held load.name) content
    × AreRead loads held contents

-- a load gave nothing, for this cause, and those before it were read
pub record StopsAtLoad (loads : List Load) (change : Change) (status : Status) : Type 0 where
  pub place : ℕ
  pub load : Load
  pub stands : slice_get loads place ≡ Some load
  pub contents : List Content
  pub read : AreRead (take place loads) change.before.held contents
  pub cause : FailsToLoad load change status
  pub calls : HasCalls change (suc place)

-- all files were read, and the work on them was refused, for this cause
pub record StopsAtWork (loads : List Load) (Refuses : List Content → Status → Type 0) (change : Change)
    (status : Status) : Type 0 where
  pub contents : List Content
  pub read : AreRead loads change.before.held contents
  pub refuses : Refuses contents status
  pub calls : HasCalls change (length loads)

-- want of memory has no cause, and comes before the writes
pub record StopsForMemory (loads : List Load) (change : Change) : Type 0 where
  pub made : ℕ
  pub most : made ≤ length loads
  pub calls : HasCalls change made

-- all files were read, this output is what they mean, and its writes ended so
pub record Publishes (command : Calls) (Means : List Content → Output → Type 0) (change : Change) (status : Status)
    : Type 0 where
  pub contents : List Content
  pub read : AreRead command.loads change.before.held contents
  pub output : Output
  pub means : Means contents output
  pub writes : Writes (length command.loads) command.stores output change status

-- by cases of the status: what it says of the loads, the work and the writes
abbrev pub Answers : Calls → (List Content → Output → Type 0) → (List Content → Status → Type 0) → Change → Status
    → Type 0
Answers command Means Refuses change statuses.Ok = Publishes command Means change statuses.Ok
Answers command Means Refuses change (statuses.WriteFault name) =
    Publishes command Means change (statuses.WriteFault name)
Answers command Means Refuses change statuses.OutOfMemory = StopsForMemory command.loads change
Answers command Means Refuses change statuses.Usage = ⊥
Answers command Means Refuses change status =
    StopsAtLoad command.loads change status ⊎ StopsAtWork command.loads Refuses change status

-- every status but Ok and WriteFault
abbrev pub OnRefusal : Status → Type 0 → Type 0
OnRefusal statuses.Ok P = Unit {0}
OnRefusal (statuses.WriteFault name) P = Unit {0}
OnRefusal status P = P

-- A command with these calls ends with this status, where `Means` says which output it makes of what it read, and
-- `Refuses` why it makes none. A refusal leaves all files and the output as they were, and whatever the status no
-- file but the stores' changes.
pub record Ends (command : Calls) (Means : List Content → Output → Type 0) (Refuses : List Content → Status → Type 0)
    (change : Change) (status : Status) : Type 0 where
  pub answer : Answers command Means Refuses change status
  pub refusal : OnRefusal status (IsUntouched change)
  pub others : OthersStay command.stores change

-- what refuses the work of a command: only the statuses that come of work, of which want of memory has no cause
abbrev pub RefusesWork : (Status → Type 0) → Status → Type 0
RefusesWork Refuses statuses.Ok = ⊥
RefusesWork Refuses statuses.Usage = ⊥
RefusesWork Refuses (statuses.WriteFault name) = ⊥
RefusesWork Refuses statuses.OutOfMemory = Unit {0}
RefusesWork Refuses status = Refuses status
