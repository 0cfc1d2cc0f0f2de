-- `search` with a journal: lanes of workers search beside each other, and the best listing is published with the
-- journal of all offers.
use Rattle.std.specs.Prelude.{◌≡◌, ℕ, List, [], ◌∷◌, ◌++◌, length, count_by, codes, decimal, IfSome}
use Rattle.io_ports.specs.Shelf.{Grows}
use Rattle.word_program.specs.Program.{Source}
use Rattle.x86_instr.specs.Listings.{NamedLines}
use Rattle.asm_text.specs.Assembly.{text_of}
use Rattle.cost_table.specs.Costs.{cost_of}
use Rattle.mutations.specs.declared.mutation.Draw.TheVariants.{Two}
use Rattle.equiv_validator.specs.Kept.{IsChecked}
use Rattle.journal_rules.specs.declared.journal.Entry.{Entry}
use Rattle.journal_rules.specs.declared.journal.Journal.{Journal}
use Rattle.journal_rules.specs.Numbers.{Setup, cost_at, plan_at, incumbent_at}
use Rattle.journal_rules.specs.Legal.{IsLegalJournal, IsWhole}
use Rattle.journal_rules.specs.Backed.{IsBackedJournal}
use Rattle.journal_text.specs.Lines.{full_lines}
use Rattle.journal_text.specs.Stands as journals
use Rattle.journal_text.specs.Text as journal_text
use Rattle.incumbent_board.specs.Views.{BoardView}
use Rattle.incumbent_board.specs.BoardOk.{IsBoard}
use Rattle.command_frame.specs.declared.format.Format.TheVariants as formats
use Rattle.command_frame.specs.declared.status.Status.{Status}
use Rattle.command_frame.specs.Change.{Change}
use Rattle.command_frame.specs.Files.{Content, DigestedProgram, IsRead}
use Rattle.command_frame.specs.Writes.{Output}
use Rattle.search_top.specs.Search.{IsFit, opening_listing}

-- what a search of a program begins with: all kinds of mutation are drawn, and the opening costs what the plain listing
-- of the opening plan does
abbrev pub setup_of : Source → List ℕ → ℕ → Setup
setup_of program seeds turns = record {
  program = program;
  draw = Two;
  seeds = seeds;
  turns = turns;
  opening = cost_of (opening_listing program).lines;
}

-- the board at the end of a search that began so
pub record IsEnd (setup : Setup) (b : BoardView) : Type 0 where
  pub begun : b.setup ≡ setup
  pub board : IsBoard b
  pub whole : IsWhole setup b.entries

-- ---- what is published

-- the journal of a program whose file has this digest
abbrev pub journal_of : Setup → List ℕ → List Entry → Journal
journal_of setup digest entries = record {
  draw = setup.draw;
  digest = digest;
  seeds = setup.seeds;
  turns = setup.turns;
  opening = setup.opening;
  entries = entries;
}

-- the number of the last one of least cost
abbrev pub best_of : Setup → List Entry → ℕ
best_of setup entries = incumbent_at setup entries (length entries)

-- the four lines that are said
unfoldable pub entries_text : ℕ → List ℕ
entries_text entries = codes " entries " ++ (decimal entries ++ codes "\n")

unfoldable pub lanes_line : ℕ → ℕ → ℕ → List ℕ
lanes_line lanes turns entries =
    codes "lanes " ++ (decimal lanes ++ (codes " turns " ++ (decimal turns ++ entries_text entries)))

unfoldable pub opening_line : ℕ → List ℕ
opening_line cost = codes "opening " ++ (decimal cost ++ codes "\n")

unfoldable pub best_line : ℕ → ℕ → List ℕ
best_line best cost = codes "best " ++ (decimal best ++ (codes " cost " ++ (decimal cost ++ codes "\n")))

-- how many entries have the mark
abbrev pub plain_in : List Entry → ℕ
plain_in entries = count_by (λ e. e.plain) entries

unfoldable pub plain_line : List Entry → List ℕ
plain_line entries = codes "plain " ++ (decimal (plain_in entries) ++ codes "\n")

unfoldable pub summary_of : Setup → List Entry → List ℕ
summary_of setup entries = lanes_line (length setup.seeds) setup.turns (length entries) ++ (opening_line setup.opening
    ++ (best_line (best_of setup entries) (cost_at setup entries (best_of setup entries)) ++ plain_line entries))

-- A search that began so ended with these entries and this listing. The journal is legal and has every turn of every
-- lane, and of each number some listing was checked. The listing has the cost of the last number of least cost, comes
-- from its plan, which follows from the journal, and is checked; it is fit to be published: its text reads back as it,
-- and it is proved and correct. The text of the journal stands for it, and for no other.
pub record IsSearch (setup : Setup) (digest : List ℕ) (entries : List Entry) (listing : NamedLines) : Type 0 where
  pub legal : IsLegalJournal setup entries
  pub whole : IsWhole setup entries
  pub backed : IsBackedJournal setup entries
  pub checks : IsChecked setup.program (plan_at setup entries (best_of setup entries)) listing
  pub cost : cost_of listing.lines ≡ cost_at setup entries (best_of setup entries)
  pub fit : IsFit setup.program listing
  pub journal : journals.Stands (full_lines (journal_text.text_of (journal_of setup digest entries)))
      (journal_of setup digest entries)

-- the texts of a listing and of a journal, and the summary
abbrev pub output_of : Setup → List ℕ → List Entry → NamedLines → Output
output_of setup digest entries listing = record {
  texts = text_of listing ∷ journal_text.text_of (journal_of setup digest entries) ∷ [];
  word = summary_of setup entries;
}

-- the output is what such a search publishes
pub record IsPublished (setup : Setup) (digest : List ℕ) (output : Output) : Type 0 where
  pub entries : List Entry
  pub listing : NamedLines
  pub is : output ≡ output_of setup digest entries listing
  pub search : IsSearch setup digest entries listing

abbrev pub LanesMeans : List ℕ → ℕ → List Content → Output → Type 0
LanesMeans seeds turns (DigestedProgram program digest ∷ []) output =
    IsPublished (setup_of program seeds turns) digest output
LanesMeans seeds turns contents output = ⊥

-- every search of a program ends
abbrev pub LanesRefuses : List Content → Status → Type 0
LanesRefuses contents status = ⊥

-- ---- success, in full

-- the files of a search with a journal, and what it is to do
pub record Lanes : Type 0 where
  pub program : List ℕ
  pub asm : List ℕ
  pub journal : List ℕ
  pub seeds : List ℕ
  pub turns : ℕ

-- A program was read from the one file, as far as the shelf told it, and this is the digest of the file's bytes. The
-- second file has exactly the text of the listing, and the third that of the journal, as far as the shelf tells them,
-- and exactly the summary was said.
pub record LanesSucceed (lanes : Lanes) (change : Change) : Type 0 where
  pub program : Source
  pub digest : List ℕ
  pub read : IsRead formats.DigestedProgram (change.before.held lanes.program) (DigestedProgram program digest)
  pub entries : List Entry
  pub listing : NamedLines
  pub search : IsSearch (setup_of program lanes.seeds lanes.turns) digest entries listing
  pub assembly : IfSome (change.after.held lanes.asm) (λ bytes. bytes ≡ text_of listing)
  pub journal : IfSome (change.after.held lanes.journal) (λ bytes. bytes
      ≡ journal_text.text_of (journal_of (setup_of program lanes.seeds lanes.turns) digest entries))
  pub output : Grows change.before.said change.after.said
      (summary_of (setup_of program lanes.seeds lanes.turns) entries)
