-- How the code reads; no part of a promise. What the answers of its parts say.
use Rattle.std.specs.Prelude.{◌≡◌, ℕ, Option, Some, None, Result, Ok, Err}
use Rattle.journal_rules.specs.declared.journal.Journal.{Journal}
use Rattle.journal_text.specs.declared.fault.JournalFault.{JournalFault}
use Rattle.journal_text.specs.declared.fault.JournalFault.TheVariants as faults
use Rattle.journal_text.specs.declared.progress.Stop.{Stop}
use Rattle.journal_text.specs.declared.progress.Stop.TheVariants as stops

-- what a line was read as, and where it was not; want of memory says nothing
abbrev pub Reads : {X V : Type 0} → Option V → (X → V) → Result X Stop → Type 0
Reads read view (Ok x) = read ≡ Some (view x)
Reads read view (Err stops.Line) = read ≡ None
Reads read view (Err stops.Memory) = Unit {0}

-- what the reading line by line ends with
abbrev pub Gives : Result Journal ℕ → Result Journal JournalFault → Type 0
Gives read (Ok j) = read ≡ Ok j
Gives read (Err (faults.Line n)) = read ≡ Err n
Gives read (Err (faults.Version found)) = ⊥
Gives read (Err faults.Memory) = Unit {0}
