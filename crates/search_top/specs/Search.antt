-- `search`: the opening of a program, which is the plain listing of its opening plan.
use Rattle.std.specs.Prelude.{◌≡◌, ℕ, List, [], ◌∷◌, ◌++◌, codes, decimal, IfSome}
use Rattle.std.specs.Str.Lines.{lines}
use Rattle.io_ports.specs.Shelf.{Grows}
use Rattle.word_program.specs.Program.{Source}
use Rattle.x86_instr.specs.Listings.{NamedLines}
use Rattle.x86_meaning.specs.Correct.{IsCorrect}
use Rattle.asm_text.specs.Assembly.{text_of}
use Rattle.asm_text.specs.Texts.{Stands}
use Rattle.cost_table.specs.Costs.{cost_of}
use Rattle.op_order.specs.Plans.{opening_of}
use Rattle.plain_lower.specs.Plain.{plain_listing}
use Rattle.equiv_validator.specs.Checks.{IsProved}
use Rattle.command_frame.specs.declared.format.Format.TheVariants as formats
use Rattle.command_frame.specs.declared.status.Status.{Status}
use Rattle.command_frame.specs.declared.status.Status.TheVariants as statuses
use Rattle.command_frame.specs.Change.{Change}
use Rattle.command_frame.specs.Files.{Content, Program, IsRead}
use Rattle.command_frame.specs.Writes.{Output}

-- the plain listing of the opening plan
abbrev pub opening_listing : Source → NamedLines
opening_listing program = plain_listing program (opening_of program)

-- what is said of a program: the cost of this listing
abbrev pub opening_text : Source → List ℕ
opening_text program = codes "opening " ++ (decimal (cost_of (opening_listing program).lines) ++ codes "\n")

-- the text of the listing stands for it
abbrev pub ReadsBack : NamedLines → Type 0
ReadsBack listing = Stands (lines (text_of listing)) listing

-- A listing fit to be published for a program: its text reads back as it, it is proved for the program, so that `check`
-- says so, and it is correct.
pub record IsFit (program : Source) (listing : NamedLines) : Type 0 where
  pub reads_back : ReadsBack listing
  pub proved : IsProved program listing.lines
  pub correct : IsCorrect program listing.lines

-- the output is the text of the opening listing and its cost, and the listing is fit to be published
pub record IsOpening (program : Source) (output : Output) : Type 0 where
  pub is : output ≡ record { texts = text_of (opening_listing program) ∷ []; word = opening_text program }
  pub fit : IsFit program (opening_listing program)

abbrev pub SearchMeans : List Content → Output → Type 0
SearchMeans (Program program ∷ []) output = IsOpening program output
SearchMeans contents output = ⊥

-- every program has an opening
abbrev pub SearchRefuses : List Content → Status → Type 0
SearchRefuses contents status = ⊥

-- ---- success, in full

-- the files of a search: the program that it reads, and the assembly that it writes
pub record Files : Type 0 where
  pub program : List ℕ
  pub asm : List ℕ

-- A program was read from the one file, as far as the shelf told it. The other file has exactly the text of its opening
-- listing, as far as the shelf tells it. This listing is fit to be published, and exactly its cost was said.
pub record Succeeds (files : Files) (change : Change) : Type 0 where
  pub program : Source
  pub read : IsRead formats.Program (change.before.held files.program) (Program program)
  pub written : IfSome (change.after.held files.asm) (λ bytes. bytes ≡ text_of (opening_listing program))
  pub fit : IsFit program (opening_listing program)
  pub output : Grows change.before.said change.after.said (opening_text program)

abbrev pub OnSuccess : Status → Type 0 → Type 0
OnSuccess statuses.Ok P = P
OnSuccess status P = Unit {0}

-- the statuses that a search may end with
abbrev pub IsOfSearch : Status → Type 0
IsOfSearch (statuses.Text line) = ⊥
IsOfSearch (statuses.Listing fault) = ⊥
IsOfSearch (statuses.Not why) = ⊥
IsOfSearch (statuses.Stuck line) = ⊥
IsOfSearch (statuses.Inputs given wanted) = ⊥
IsOfSearch (statuses.OutOfBounds word) = ⊥
IsOfSearch (statuses.Journal line) = ⊥
IsOfSearch (statuses.Version found) = ⊥
IsOfSearch (statuses.Replay fault) = ⊥
IsOfSearch status = Unit {0}
