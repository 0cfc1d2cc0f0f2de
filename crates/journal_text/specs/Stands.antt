-- Which texts stand for which journals, by their lines; and what each fault says of a text.
use Rattle.std.specs.Prelude.{◌≡◌, ◌≢◌, ◌<◌, ◌^◌, ℕ, List, ◌∷◌}
use Rattle.asm_tokens.specs.Whole.{IsFirstFault}
use Rattle.journal_rules.specs.declared.journal.Journal.{Journal}
use Rattle.journal_text.specs.Text.{first_line, lines_of}
use Rattle.journal_text.specs.Limits.{IsWithin, IsTyped}
use Rattle.journal_text.specs.declared.fault.JournalFault.{JournalFault}
use Rattle.journal_text.specs.declared.fault.JournalFault.TheVariants as faults

-- the lines are those of the journal, which keeps the limits
pub record Stands (lines : List (List ℕ)) (j : Journal) : Type 0 where
  pub spelled : lines ≡ lines_of j
  pub within : IsWithin j
  pub typed : IsTyped j

-- line 1 is right but for its number, which is neither 1 nor 2
pub record IsOther (lines : List (List ℕ)) (found : ℕ) : Type 0 where
  pub rest : List (List ℕ)
  pub spelled : lines ≡ first_line found ∷ rest
  pub small : found < 2 ^ 64
  pub no_one : found ≢ 1
  pub no_two : found ≢ 2

-- `Version` is another version, and `Line` the first faulty line of a text that has none; want of memory says nothing
abbrev pub Refuses : List (List ℕ) → JournalFault → Type 0
Refuses lines (faults.Version found) = IsOther lines found
Refuses lines (faults.Line n) = IsFirstFault Stands lines n × ((found : ℕ) → ¬ (IsOther lines found))
Refuses lines faults.Memory = Unit {0}
