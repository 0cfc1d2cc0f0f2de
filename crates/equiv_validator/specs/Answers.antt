-- What the check of a listing together with its plan answers.
use Rattle.std.specs.Prelude.{◌≡◌}
use Rattle.word_program.specs.Program.{Source}
use Rattle.x86_instr.specs.Listings.{NamedLines}
use Rattle.op_order.specs.Plans.{SlotsWithRoom}
use Rattle.op_order.specs.Realises.{DiffersFirst, Realises}
use Rattle.equiv_validator.specs.declared.checked.Answer.{Answer}
use Rattle.equiv_validator.specs.declared.checked.Answer.TheVariants.{Yes, Differs, Not}
use Rattle.equiv_validator.specs.Checks.{Fails}
use Rattle.equiv_validator.specs.Kept.{IsChecked}

-- Yes: the listing realises the plan and is proved, and all three are kept. Differs: it does not realise the plan, and
-- this is the first slot at which it differs. Not: it realises the plan, and this is its first failure. The plan that
-- is handed back is the one that was given.
abbrev pub IsAnswer : Source → SlotsWithRoom → NamedLines → Answer → Type 0
IsAnswer program plan listing (Yes kept) =
    (kept ≡ record { program = program; plan = plan; listing = listing }) × IsChecked program plan.slots listing
IsAnswer program plan listing (Differs slot back) =
    (back ≡ plan) × DiffersFirst program plan.slots listing slot
IsAnswer program plan listing (Not why back) =
    (back ≡ plan) × Realises program plan.slots listing × Fails program listing.lines why
