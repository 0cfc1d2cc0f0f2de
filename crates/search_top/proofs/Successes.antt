-- What it means that a search succeeded, from how it ended.
use Rattle.std.proofs.Common.{◌≡◌, ℕ, List, [], ◌∷◌, Option, Some, None, IfSome, subst}
use Rattle.io_ports.specs.Shelf.{Grows}
use Rattle.command_frame.specs.declared.status.Status.{Status}
use Rattle.command_frame.specs.declared.status.Status.TheVariants as statuses
use Rattle.command_frame.specs.Change.{Change}
use Rattle.command_frame.specs.Files.{Content, Program, DigestedProgram, Listing, Journal}
use Rattle.command_frame.specs.Writes.{Output, AreStored, IsWritten}
use Rattle.command_frame.specs.Ends.{AreRead}
use Rattle.command_line.specs.declared.command.Command.{Command}
use Rattle.command_line.specs.declared.command.Command.TheVariants as commands
use Rattle.search_top.specs.Search.{Files, SearchMeans, Succeeds, OnSuccess}
use Rattle.search_top.specs.Lanes.{Lanes, LanesMeans, LanesSucceed}
use Rattle.search_top.specs.Commands.{EndsAs, SearchSucceeds, program_in, digested_in}

-- all was written that a search without a journal publishes
of_opening : (files : Files) (change : Change) (contents : List Content) (output : Output)
    → AreRead (program_in files.program ∷ []) change.before.held contents → SearchMeans contents output
    → IsWritten 1 (files.asm ∷ []) output change → Succeeds files change
of_opening files change [] output read means writes = absurd means
of_opening files change (Program p ∷ []) output read means writes =
    let stored = subst (λ (o : Output). AreStored (files.asm ∷ []) o.texts change.after.held) means.is
    writes.stored in
    record {
      program = p;
      read = read.0;
      written = stored.0;
      fit = means.fit;
      output = subst (λ (o : Output). Grows change.before.said change.after.said o.word) means.is writes.said;
    }
of_opening files change (Program p ∷ content ∷ contents) output read means writes = absurd means
of_opening files change (DigestedProgram p digest ∷ contents) output read means writes = absurd means
of_opening files change (Listing l ∷ contents) output read means writes = absurd means
of_opening files change (Journal j ∷ contents) output read means writes = absurd means

-- all was written that a search by lanes publishes
of_lanes : (lanes : Lanes) (change : Change) (contents : List Content) (output : Output)
    → AreRead (digested_in lanes.program ∷ []) change.before.held contents
    → LanesMeans lanes.seeds lanes.turns contents output
    → IsWritten 1 (lanes.asm ∷ lanes.journal ∷ []) output change → LanesSucceed lanes change
of_lanes lanes change [] output read means writes = absurd means
of_lanes lanes change (DigestedProgram p digest ∷ []) output read means writes =
    let stored = subst (λ (o : Output). AreStored (lanes.asm ∷ lanes.journal ∷ []) o.texts change.after.held) means.is
    writes.stored in
    record {
      program = p;
      digest = digest;
      read = read.0;
      entries = means.entries;
      listing = means.listing;
      search = means.search;
      assembly = stored.0;
      journal = stored.1.0;
      output = subst (λ (o : Output). Grows change.before.said change.after.said o.word) means.is writes.said;
    }
of_lanes lanes change (DigestedProgram p digest ∷ content ∷ contents) output read means writes = absurd means
of_lanes lanes change (Program p ∷ contents) output read means writes = absurd means
of_lanes lanes change (Listing l ∷ contents) output read means writes = absurd means
of_lanes lanes change (Journal j ∷ contents) output read means writes = absurd means

succeeds : (command : Command) (change : Change) → EndsAs command change statuses.Ok → SearchSucceeds command change
succeeds (commands.Search program asm) change ends =
    of_opening (record { program = program; asm = asm }) change ends.answer.contents ends.answer.output
    ends.answer.read ends.answer.means ends.answer.writes
succeeds (commands.SearchLanes program asm journal seeds workers turns) change ends =
    of_lanes (record { program = program; asm = asm; journal = journal; seeds = seeds; turns = turns }) change
    ends.answer.contents ends.answer.output ends.answer.read ends.answer.means ends.answer.writes
succeeds command change ends = tt

for_found : (found : Option Command) (change : Change)
    → IfSome found (λ command. EndsAs command change statuses.Ok)
    → IfSome found (λ command. SearchSucceeds command change)
for_found None change ends = tt
for_found (Some command) change ends = succeeds command change ends

-- of the command that was found, whatever its status
pub on_success : (found : Option Command) (change : Change) (status : Status)
    → IfSome found (λ command. EndsAs command change status)
    → OnSuccess status (IfSome found (λ command. SearchSucceeds command change))
on_success found change statuses.Ok ends = for_found found change ends
on_success found change status ends = tt
