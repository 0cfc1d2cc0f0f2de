-- A file that is no journal.
use Rattle.std.proofs.Common.{◌≡◌, ℕ, List, Option, Some, None, Result, Ok, Err, IfSome, IfErr, subst}
use Rattle.command_frame.specs.declared.format.Format.TheVariants as formats
use Rattle.command_frame.specs.declared.status.Status.{Status}
use Rattle.command_frame.specs.declared.status.Status.TheVariants as statuses
use Rattle.command_frame.specs.Change.{Change}
use Rattle.command_frame.specs.Files.{Load, FailsToLoad, RefusesFile}
use Rattle.command_frame.specs.Loading.{Fails, Fits}

-- what refuses bytes says nothing of a file that is not told
not_told : (status : Status) (bytes : List ℕ) → RefusesFile status formats.Journal (Some bytes)
    → RefusesFile status formats.Journal None
not_told (statuses.Journal line) bytes cause = tt
not_told (statuses.Version found) bytes cause = tt
not_told statuses.OutOfMemory bytes cause = cause
not_told status bytes cause = absurd cause

as_told : (status : Status) (told : Option (List ℕ)) (bytes : List ℕ) → IfSome told (λ b. bytes ≡ b)
    → RefusesFile status formats.Journal (Some bytes) → RefusesFile status formats.Journal told
as_told status None bytes same cause = not_told status bytes cause
as_told status (Some b) bytes same cause = subst (λ told. RefusesFile status formats.Journal (Some told)) same cause

abbrev journal_in : List ℕ → Load
journal_in name = record { name = name; format = formats.Journal }

as_failure : (name : List ℕ) (change : Change) (status : Status)
    → RefusesFile status formats.Journal (change.before.held name) → FailsToLoad (journal_in name) change status
as_failure name change (statuses.ReadFault other) cause = absurd cause
as_failure name change (statuses.TooLong other most) cause = absurd cause
as_failure name change status cause = cause

-- bytes that are refused make the load fail
pub refused_load : {T : Type 0} (name bytes read : List ℕ) (change : Change) (result : Result T Status)
    → read ≡ bytes → Fits (journal_in name) bytes change
    → IfErr result (λ status. RefusesFile status formats.Journal (Some read))
    → IfErr result (λ status. Fails (journal_in name) change status)
refused_load name bytes read change (Ok x) same fits refused = tt
refused_load name bytes read change (Err status) same fits refused = record {
  cause = as_failure name change status (as_told status (change.before.held name) bytes fits.told
      (subst (λ b. RefusesFile status formats.Journal (Some b)) same refused));
  untouched = fits.untouched;
  calls = fits.calls;
}
