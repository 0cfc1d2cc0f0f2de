-- What a shelf tells and counts before a command and after it. The words are this project's own, over those of
-- the port `Shelf`: what is not told is None, and no promise speaks of it.
use Rattle.std.specs.Prelude.{◌≡◌, ℕ, zero, suc, List, Option}
use Rattle.io_ports.specs.Shelf.{saturating_add}

-- what a shelf tells of each file and of all that was said, and its counts of calls and of faults
pub record View : Type 0 where
  pub held : List ℕ → Option (List ℕ)
  pub said : Option (List ℕ)
  pub calls : ℕ
  pub faults : ℕ

pub record Change : Type 0 where
  pub before : View
  pub after : View

-- from one state of a shelf to another, by the four words of its trait
abbrev pub change_of : {S : Type 0} → (S → List ℕ → Option (List ℕ)) → (S → Option (List ℕ)) → (S → ℕ) → (S → ℕ)
    → S → S → Change
change_of held said calls faults old new = record {
  before = record { held = held old; said = said old; calls = calls old; faults = faults old };
  after = record { held = held new; said = said new; calls = calls new; faults = faults new };
}

-- the files and the output are as they were
pub record IsUntouched (change : Change) : Type 0 where
  pub files : (name : List ℕ) → change.after.held name ≡ change.before.held name
  pub output : change.after.said ≡ change.before.said

-- so many calls were made
abbrev pub HasCalls : Change → ℕ → Type 0
HasCalls change zero = change.after.calls ≡ change.before.calls
HasCalls change (suc made) = change.after.calls ≡ saturating_add change.before.calls (suc made)

-- no call was made, and nothing changed
pub record IsIdle (change : Change) : Type 0 where
  pub untouched : IsUntouched change
  pub calls : change.after.calls ≡ change.before.calls
  pub faults : change.after.faults ≡ change.before.faults
