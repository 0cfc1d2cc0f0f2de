-- What is kept of a listing that was checked for a program together with the plan that it comes from.
use Rattle.std.specs.Prelude.{◌≡◌, List}
use Rattle.word_program.specs.Program.{Source}
use Rattle.x86_instr.specs.Listings.{NamedLines}
use Rattle.x86_meaning.specs.Correct.{IsCorrect}
use Rattle.op_order.specs.declared.slot.Slot.{Slot}
use Rattle.op_order.specs.Plans.{SlotsWithRoom}
use Rattle.op_order.specs.Legal.{IsLegal}
use Rattle.op_order.specs.Realises.{Realises}
use Rattle.equiv_validator.specs.Checks.{IsProved}

-- a program, a plan of it, and a listing
pub record CheckedListing : Type 0 where
  pub program : Source
  pub plan : SlotsWithRoom
  pub listing : NamedLines

-- the listing is the program's by its name, does what the plan says, is proved for the program, and so is correct
pub record IsChecked (program : Source) (slots : List Slot) (listing : NamedLines) : Type 0 where
  pub legal : IsLegal program slots
  pub name : listing.name ≡ program.name
  pub realises : Realises program slots listing
  pub proved : IsProved program listing.lines
  pub correct : IsCorrect program listing.lines

-- that holds of the three
abbrev pub HasChecks : CheckedListing → Type 0
HasChecks kept = IsChecked kept.program kept.plan.slots kept.listing
