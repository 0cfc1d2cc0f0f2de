-- `replay`: a journal and a listing that replay for a program.
use Rattle.std.specs.Prelude.{◌≡◌, ℕ, List, [], ◌∷◌, ◌++◌, length, codes, decimal}
use Rattle.word_program.specs.Program.{Source}
use Rattle.x86_instr.specs.Listings.{NamedLines}
use Rattle.x86_meaning.specs.Correct.{IsCorrect}
use Rattle.journal_rules.specs.declared.journal.Journal.{Journal}
use Rattle.journal_replay.specs.Checks.{Given, Replays, IsFirstFault, IsIncumbentOf, given, last_number, last_cost}
use Rattle.command_frame.specs.declared.status.Status.{Status}
use Rattle.command_frame.specs.declared.status.Status.TheVariants as statuses
use Rattle.command_frame.specs.Files.{Content, DigestedProgram, Journal as journals, Listing}
use Rattle.command_frame.specs.Writes.{Output, says}

-- `replayed ENTRIES best NUMBER cost COST` and a line feed
unfoldable pub replayed_text : ℕ → ℕ → ℕ → List ℕ
replayed_text entries best cost = codes "replayed " ++ (decimal entries ++ (codes " best " ++ (decimal best
    ++ (codes " cost " ++ (decimal cost ++ codes "\n")))))

abbrev pub text_of : Given → List ℕ
text_of g = replayed_text (length g.journal.entries) (last_number g) (last_cost g)

-- the number is that of the incumbent, and all checks hold
pub record IsNumber (g : Given) (number : ℕ) : Type 0 where
  pub last : number ≡ last_number g
  pub replays : Replays g
  pub incumbent : IsIncumbentOf g number

-- all checks hold: the journal is that of a search of the program, and the listing is the incumbent's, which is correct
pub record IsReplayed (g : Given) (output : Output) : Type 0 where
  pub says_so : output ≡ says (text_of g)
  pub replays : Replays g
  pub incumbent : IsIncumbentOf g (last_number g)
  pub correct : IsCorrect g.program g.listing.lines

abbrev pub ReplayMeans : List Content → Output → Type 0
ReplayMeans (DigestedProgram program digest ∷ journals journal ∷ Listing listing ∷ []) output =
    IsReplayed (given program digest journal listing) output
ReplayMeans contents output = ⊥

-- the first check that fails
abbrev pub ReplayRefuses : List Content → Status → Type 0
ReplayRefuses (DigestedProgram program digest ∷ journals journal ∷ Listing listing ∷ []) (statuses.Replay fault) =
    IsFirstFault (given program digest journal listing) fault
ReplayRefuses contents status = ⊥
