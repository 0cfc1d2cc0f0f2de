-- What a status prints on standard error, and the exit status that it ends with.
use Rattle.std.specs.Prelude.{ℕ, List, [], ◌∷◌, ◌++◌, codes, decimal, nat_lt, if◌then◌else◌, Option, Some, None}
use Rattle.word_text.specs.declared.fault.Section.{Section}
use Rattle.word_text.specs.declared.fault.Section.TheVariants as sections
use Rattle.word_text.specs.declared.fault.Place.{Place}
use Rattle.x86_instr.specs.declared.listing.ListingFault.{ListingFault}
use Rattle.x86_instr.specs.declared.listing.ListingFault.TheVariants as causes
use Rattle.asm_operands.specs.Names.{reg_text}
use Rattle.equiv_validator.specs.declared.verdict.Why.{Why}
use Rattle.equiv_validator.specs.declared.verdict.Why.TheVariants as whys
use Rattle.journal_replay.specs.declared.fault.ReplayFault.{ReplayFault}
use Rattle.journal_replay.specs.declared.fault.ReplayFault.TheVariants as replays
use Rattle.command_frame.specs.declared.status.Status.{Status}
use Rattle.command_frame.specs.declared.status.Status.TheVariants as statuses

abbrev pub exit_of : Status → ℕ
exit_of statuses.Ok = 0
exit_of statuses.Usage = 2
exit_of (statuses.ReadFault name) = 3
exit_of (statuses.TooLong name limit) = 4
exit_of statuses.NotJson = 5
exit_of (statuses.Program code place) = 6
exit_of (statuses.WriteFault name) = 7
exit_of (statuses.Text line) = 8
exit_of (statuses.Listing fault) = 9
exit_of (statuses.Not why) = 10
exit_of (statuses.Stuck line) = 11
exit_of (statuses.Inputs given wanted) = 12
exit_of (statuses.OutOfBounds word) = 13
exit_of (statuses.Journal line) = 14
exit_of (statuses.Version found) = 15
exit_of (statuses.Replay fault) = 16
exit_of statuses.OutOfMemory = 17

abbrev pub section_text : Section → List ℕ
section_text sections.Top = codes "top"
section_text sections.Returns = codes "returns"
section_text sections.Arguments = codes "arguments"
section_text sections.Body = codes "body"

abbrev pub listing_text : ListingFault → List ℕ
listing_text causes.TooLong = codes "listing too long"
listing_text causes.NoReturn = codes "listing without its return"

-- with two digits at least
unfoldable pub code_text : ℕ → List ℕ
code_text code = if nat_lt code 10 then 48 ∷ decimal code else decimal code

unfoldable pub place_text : Place → List ℕ
place_text place = section_text place.section
    ++ (codes " " ++ (decimal place.item ++ (codes " " ++ decimal place.inner)))

unfoldable pub too_long_text : List ℕ → ℕ → List ℕ
too_long_text name limit = name ++ (codes " has more than " ++ (decimal limit ++ codes " bytes"))

unfoldable pub program_fault_text : ℕ → Place → List ℕ
program_fault_text code place = codes "program fault P" ++ (code_text code ++ (codes " at " ++ place_text place))

-- the number of a node, where one is known
abbrev pub node_text : Option ℕ → List ℕ
node_text None = codes "none"
node_text (Some node) = decimal node

-- the program's node of an output word, and the listing's
unfoldable pub difference_text : ℕ → ℕ → Option ℕ → List ℕ
difference_text word source listing = codes "output " ++ (decimal word ++ (codes " node " ++ (decimal source
    ++ (codes " against " ++ node_text listing))))

-- why a listing is not proved
unfoldable pub why_text : Why → List ℕ
why_text (whys.Stuck line) = codes "stuck at " ++ decimal line
why_text (whys.Output word source listing) = difference_text word source listing
why_text (whys.Saved reg) = codes "register " ++ reg_text reg
why_text whys.Stack = codes "stack"

-- the first entry that breaks a rule, and the two costs that differ
unfoldable pub entry_text : ℕ → ℕ → List ℕ
entry_text number rule = codes "replay: entry " ++ (decimal number ++ (codes " rule " ++ decimal rule))

unfoldable pub costs_text : ℕ → ℕ → List ℕ
costs_text recorded table = codes "replay: cost " ++ (decimal recorded ++ (codes " table " ++ decimal table))

-- why a journal and a listing do not replay; want of memory is a status of its own
abbrev pub replay_text : ReplayFault → List ℕ
replay_text (replays.Digest journal program) = codes "replay: digest"
replay_text (replays.Entry number rule) = entry_text number rule
replay_text (replays.Realises slot) = codes "replay: slot " ++ decimal slot
replay_text (replays.Cost recorded table) = costs_text recorded table
replay_text (replays.NotProved why) = codes "replay: " ++ (codes "not proved: " ++ why_text why)
replay_text replays.Memory = codes "out of memory"

unfoldable pub inputs_text : ℕ → ℕ → List ℕ
inputs_text given wanted = decimal given ++ (codes " inputs, " ++ (decimal wanted ++ codes " wanted"))

unfoldable pub out_of_bounds_text : ℕ → List ℕ
out_of_bounds_text word = codes "input " ++ (decimal word ++ codes " out of bounds")

-- the line without its line feed; nothing for Ok
unfoldable pub line_of : Status → List ℕ
line_of statuses.Ok = []
line_of statuses.Usage = codes "usage"
line_of (statuses.ReadFault name) = codes "cannot read " ++ name
line_of (statuses.TooLong name limit) = too_long_text name limit
line_of statuses.NotJson = codes "not JSON"
line_of (statuses.Program code place) = program_fault_text code place
line_of (statuses.WriteFault name) = codes "cannot write " ++ name
line_of (statuses.Text line) = codes "assembly line " ++ decimal line
line_of (statuses.Listing fault) = listing_text fault
line_of (statuses.Not why) = codes "not proved: " ++ why_text why
line_of (statuses.Stuck line) = codes "stuck at " ++ decimal line
line_of (statuses.Inputs given wanted) = inputs_text given wanted
line_of (statuses.OutOfBounds word) = out_of_bounds_text word
line_of (statuses.Journal line) = codes "journal line " ++ decimal line
line_of (statuses.Version found) = codes "journal version " ++ decimal found
line_of (statuses.Replay fault) = replay_text fault
line_of statuses.OutOfMemory = codes "out of memory"
