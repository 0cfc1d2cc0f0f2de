-- What the laws of this crate say.
use Rattle.std.specs.Prelude.{◌≡◌, ◌≢◌}
use Rattle.word_program.specs.Accepted.{IsAccepted}
use Rattle.x86_instr.specs.Fits.{FitsLines}
use Rattle.x86_meaning.specs.Correct.{IsCorrect}
use Rattle.journal_replay.specs.declared.fault.ReplayFault.{ReplayFault}
use Rattle.journal_replay.specs.declared.fault.ReplayFault.TheVariants.{Memory}
use Rattle.journal_replay.specs.Checks.{Given, Replays, IsFirstFault, IsIncumbentOf, last_number}

-- a journal and a listing that replay
abbrev pub ReplayedIsCorrect : Type 0
ReplayedIsCorrect = (g : Given) → IsAccepted g.program → FitsLines g.listing.lines → Replays g
    → IsIncumbentOf g (last_number g) × IsCorrect g.program g.listing.lines

-- of what replays no check fails
abbrev pub NoFaultReplays : Type 0
NoFaultReplays = (g : Given) (fault : ReplayFault) → Replays g → fault ≢ Memory → IsFirstFault g fault → ⊥

-- at most one check is the first that fails
abbrev pub OneFault : Type 0
OneFault = (g : Given) (f h : ReplayFault) → f ≢ Memory → h ≢ Memory → IsFirstFault g f → IsFirstFault g h → f ≡ h
