-- Laws of the text of a journal.
use Rattle.std.specs.Prelude.{◌≡◌, ℕ, List, Ok, Err}
use Rattle.asm_tokens.specs.Whole.{IsFirstFault}
use Rattle.journal_rules.specs.declared.journal.Journal.{Journal}
use Rattle.journal_text.specs.Text.{text_of}
use Rattle.journal_text.specs.Limits.{IsWithin, IsTyped}
use Rattle.journal_text.specs.Lines.{full_lines}
use Rattle.journal_text.specs.Stands.{Stands}
use Rattle.journal_text.specs.Reading.{read_text}

-- what is read stands there
abbrev pub ReadStands : Type 0
ReadStands = (bytes : List ℕ) (j : Journal) → read_text bytes ≡ Ok j → Stands (full_lines bytes) j

-- what stands there is read
abbrev pub StandsRead : Type 0
StandsRead = (bytes : List ℕ) (j : Journal) → Stands (full_lines bytes) j → read_text bytes ≡ Ok j

-- a text stands for one journal
abbrev pub OneJournal : Type 0
OneJournal = (bytes : List ℕ) (j k : Journal) → Stands (full_lines bytes) j → Stands (full_lines bytes) k → j ≡ k

-- the line at which the reading fails is the first faulty one
abbrev pub FailsFirst : Type 0
FailsFirst = (bytes : List ℕ) (n : ℕ) → read_text bytes ≡ Err n → IsFirstFault Stands (full_lines bytes) n

-- and at the first faulty line the reading fails
abbrev pub FirstFails : Type 0
FirstFails = (bytes : List ℕ) (n : ℕ) → IsFirstFault Stands (full_lines bytes) n → read_text bytes ≡ Err n

-- the text of a journal that keeps the limits stands for it
abbrev pub TextStands : Type 0
TextStands = (j : Journal) → IsWithin j → IsTyped j → Stands (full_lines (text_of j)) j

-- and is read back
abbrev pub ReadsBack : Type 0
ReadsBack = (j : Journal) → IsWithin j → IsTyped j → read_text (text_of j) ≡ Ok j
