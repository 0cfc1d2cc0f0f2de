-- The files that commands load: what each is read as, how long it may be, what was read from it, and why nothing
-- was. A further format of file is one more row of each table. The digest is SHA-256, FIPS 180-4.
use Rattle.std.specs.Prelude.{◌≡◌, ℕ, true, ◌<◌, ◌≤◌, List, length, Option, IfSome}
use Rattle.std.specs.Str.Lines.{lines}
use Rattle.sha2.specs.Sha256.{sha256}
use Rattle.base.specs.declared.limits.TheConstants.{MAX_LINES}
use Rattle.io_ports.specs.Shelf.{Rose}
use Rattle.word_program.specs.Accepted.{IsAccepted}
use Rattle.word_program.specs.Program.{Source}
use Rattle.fiat_json.specs.Reading.{IsProgram, IsNotJson, Breaks}
use Rattle.x86_instr.specs.declared.listing.ListingFault.{ListingFault}
use Rattle.x86_instr.specs.declared.listing.ListingFault.TheVariants as causes
use Rattle.x86_instr.specs.Listings.{NamedLines, ends_at_ret}
use Rattle.asm_text.specs.Texts.{Stands, Refuses}
use Rattle.asm_text.specs.declared.fault.TextFault.{TextFault}
use Rattle.asm_text.specs.declared.fault.TextFault.TheVariants as texts
use Rattle.journal_rules.specs.declared.journal.Journal as journals
use Rattle.journal_text.specs.Limits.{IsWithin}
use Rattle.journal_text.specs.Lines.{full_lines}
use Rattle.journal_text.specs.Stands as journal_text
use Rattle.journal_text.specs.declared.fault.JournalFault.TheVariants as journal_faults
use Rattle.command_frame.specs.declared.format.TheConstants.{PROGRAM_LIMIT, ASM_LIMIT, JOURNAL_LIMIT}
use Rattle.command_frame.specs.declared.format.Format.{Format}
use Rattle.command_frame.specs.declared.format.Format.TheVariants as formats
use Rattle.command_frame.specs.declared.status.Status.{Status}
use Rattle.command_frame.specs.declared.status.Status.TheVariants as statuses
use Rattle.command_frame.specs.Change.{Change}

-- what was read from a file: a program, a program and the digest of its file, a listing, or a journal
pub data Content : Type 0 where
  Program : Source → Content
  DigestedProgram : Source → List ℕ → Content
  Listing : NamedLines → Content
  Journal : journals.Journal → Content

-- how many bytes the file may have
abbrev pub limit_of : Format → ℕ
limit_of formats.Program = PROGRAM_LIMIT
limit_of formats.DigestedProgram = PROGRAM_LIMIT
limit_of formats.Listing = ASM_LIMIT
limit_of formats.Journal = JOURNAL_LIMIT

-- the lines are those of a listing: at most 65,536, of which the last one is the only `ret`
pub record KeepsRules (l : NamedLines) : Type 0 where
  pub short : length l.lines ≤ MAX_LINES
  pub ends : ends_at_ret l.lines ≡ true

-- a file that is told has at most as many bytes as it may have, and this holds of them
abbrev pub IfFits : Format → Option (List ℕ) → (List ℕ → Type 0) → Type 0
IfFits format told P = IfSome told (λ bytes. (length bytes ≤ limit_of format) × P bytes)

-- the content keeps its rules, and the file, where it is told, is its text
abbrev pub IsRead : Format → Option (List ℕ) → Content → Type 0
IsRead formats.Program told (Program p) = IsAccepted p × IfFits formats.Program told (λ bytes. IsProgram bytes p)
IsRead formats.DigestedProgram told (DigestedProgram p digest) = IsAccepted p
    × IfFits formats.DigestedProgram told (λ bytes. IsProgram bytes p × (digest ≡ sha256 bytes))
IsRead formats.Listing told (Listing l) = KeepsRules l × IfFits formats.Listing told (λ bytes. Stands (lines bytes) l)
IsRead formats.Journal told (Journal j) =
    IsWithin j × IfFits formats.Journal told (λ bytes. journal_text.Stands (full_lines bytes) j)
IsRead format told content = ⊥

-- the fault of a text that breaks a rule of listings
abbrev pub text_fault_of : ListingFault → TextFault
text_fault_of causes.TooLong = texts.TooLong
text_fault_of causes.NoReturn = texts.NoReturn

-- of a file that is to be a program
abbrev pub OfProgram : Format → Type 0 → Type 0
OfProgram formats.Program P = P
OfProgram formats.DigestedProgram P = P
OfProgram format P = ⊥

-- of a file that is to be a listing
abbrev pub OfListing : Format → Type 0 → Type 0
OfListing formats.Listing P = P
OfListing format P = ⊥

-- of a file that is to be a journal
abbrev pub OfJournal : Format → Type 0 → Type 0
OfJournal formats.Journal P = P
OfJournal format P = ⊥

-- why nothing was read from the file, of which it speaks where it is told; want of memory says nothing
abbrev pub RefusesFile : Status → Format → Option (List ℕ) → Type 0
RefusesFile statuses.NotJson format told = OfProgram format (IfFits format told IsNotJson)
RefusesFile (statuses.Program code place) format told =
    OfProgram format (IfFits format told (λ bytes. Breaks bytes code place))
RefusesFile (statuses.Text line) format told =
    OfListing format (IfFits format told (λ bytes. Refuses (lines bytes) (texts.Line line)))
RefusesFile (statuses.Listing fault) format told =
    OfListing format (IfFits format told (λ bytes. Refuses (lines bytes) (text_fault_of fault)))
RefusesFile (statuses.Journal line) format told =
    OfJournal format (IfFits format told (λ bytes. journal_text.Refuses (full_lines bytes) (journal_faults.Line line)))
RefusesFile (statuses.Version found) format told = OfJournal format
    (IfFits format told (λ bytes. journal_text.Refuses (full_lines bytes) (journal_faults.Version found)))
RefusesFile statuses.OutOfMemory format told = Unit {0}
RefusesFile status format told = ⊥

-- ---- loads

-- a file that a command loads
pub record Load : Type 0 where
  pub name : List ℕ
  pub format : Format

-- why a load gave nothing: the shelf counted a fault, the file is too long, or its bytes are refused
abbrev pub FailsToLoad : Load → Change → Status → Type 0
FailsToLoad load change (statuses.ReadFault name) =
    (name ≡ load.name) × Rose change.before.faults change.after.faults
FailsToLoad load change (statuses.TooLong name most) = (name ≡ load.name) × (most ≡ limit_of load.format)
    × IfSome (change.before.held load.name) (λ bytes. limit_of load.format < length bytes)
FailsToLoad load change status = RefusesFile status load.format (change.before.held load.name)
