-- The writes of a command: the texts that it stores under their names, in order, and last the word that it says.
use Rattle.std.specs.Prelude.{◌≡◌, ◌≢◌, ◌⊎◌, ℕ, suc, ◌+◌, List, [], ◌∷◌, length, take, codes, slice_get, Option, Some}
use Rattle.std.specs.Prelude.{IfSome}
use Rattle.std.specs.List.{AllByRecursion}
use Rattle.io_ports.specs.Shelf.{Rose, Stays, Grows, GrowsByPart}
use Rattle.command_frame.specs.declared.status.Status.{Status}
use Rattle.command_frame.specs.declared.status.Status.TheVariants as statuses
use Rattle.command_frame.specs.Change.{Change, HasCalls}

-- the texts for the files that are stored, in order, and the word on standard output
pub record Output : Type 0 where
  pub texts : List (List ℕ)
  pub word : List ℕ

-- nothing but a word on standard output
abbrev pub says : List ℕ → Output
says word = record { texts = []; word = word }

-- the files under these names have these texts, as far as they are told
abbrev pub AreStored : List (List ℕ) → List (List ℕ) → (List ℕ → Option (List ℕ)) → Type 0
AreStored [] [] held = Unit {0}
AreStored [] (text ∷ texts) held = ⊥
AreStored (name ∷ names) [] held = ⊥
AreStored (name ∷ names) (text ∷ texts) held = IfSome (held name) (λ bytes. bytes ≡ text) × AreStored names texts held

-- files of other names stay, as far as they are told
abbrev pub OthersStay : List (List ℕ) → Change → Type 0
OthersStay names change = (other : List ℕ) → AllByRecursion (λ name. other ≢ name) names
    → Stays (change.before.held other) (change.after.held other)

-- `made` is the number of calls before the writes

-- all was written
pub record IsWritten (made : ℕ) (stores : List (List ℕ)) (output : Output) (change : Change) : Type 0 where
  pub stored : AreStored stores output.texts change.after.held
  pub said : Grows change.before.said change.after.said output.word
  pub calls : HasCalls change (suc (made + length stores))

-- A store failed: those before it stand, its own file is open, no other changed, and nothing was said.
pub record StopsAtStore (made : ℕ) (stores : List (List ℕ)) (output : Output) (change : Change) (name : List ℕ) : Type 0
  where
    pub place : ℕ
    pub stands : slice_get stores place ≡ Some name
    pub stored : AreStored (take place stores) (take place output.texts) change.after.held
    pub others : OthersStay (take (suc place) stores) change
    pub said : Stays change.before.said change.after.said
    pub calls : HasCalls change (suc (made + place))

-- standard output failed: all stores stand, and a first part of the word was said, maybe none of it
pub record StopsAtOutput (made : ℕ) (stores : List (List ℕ)) (output : Output) (change : Change) (name : List ℕ)
    : Type 0 where
  pub named : name ≡ codes "-"
  pub stored : AreStored stores output.texts change.after.held
  pub said : GrowsByPart change.before.said change.after.said output.word
  pub calls : HasCalls change (suc (made + length stores))

-- how the writes end, by cases of the status
abbrev pub Writes : ℕ → List (List ℕ) → Output → Change → Status → Type 0
Writes made stores output change statuses.Ok = IsWritten made stores output change
Writes made stores output change (statuses.WriteFault name) = Rose change.before.faults change.after.faults
    × (StopsAtStore made stores output change name ⊎ StopsAtOutput made stores output change name)
Writes made stores output change status = ⊥
