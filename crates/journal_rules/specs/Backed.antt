-- Backed numbers: those of which some listing with this cost was checked together with this plan. The listing need not
-- be kept.
use Rattle.std.specs.Prelude.{◌≡◌, ◌≤◌, ℕ, Bool, nat_le, List, [], length}
use Rattle.base.specs.declared.limits.TheConstants.{MAX_LINES}
use Rattle.word_program.specs.Program.{Source}
use Rattle.x86_instr.specs.Listings.{NamedLines}
use Rattle.op_order.specs.declared.slot.Slot.{Slot}
use Rattle.cost_table.specs.Costs.{cost_of}
use Rattle.plain_lower.specs.Plain.{plain_lines}
use Rattle.equiv_validator.specs.Kept.{IsChecked}
use Rattle.journal_rules.specs.declared.journal.Entry.{Entry}
use Rattle.journal_rules.specs.Numbers.{Setup, Number, number_of, numbers_of, opening_number}
use Rattle.journal_rules.specs.Legal.{EachAfter}

-- the plan is legal, and a listing that does what it says is proved for the program, and so correct, and has this cost
pub record IsBacked (program : Source) (number : Number) : Type 0 where
  pub listing : NamedLines
  pub short : length listing.lines ≤ MAX_LINES
  pub checks : IsChecked program number.slots listing
  pub cost : number.cost ≡ cost_of listing.lines

-- what the plain listing of a plan costs
unfoldable pub plain_cost : Source → List Slot → ℕ
plain_cost program slots = cost_of (plain_lines program slots)

-- the mark of an offer says whether it costs as much as the plain listing of its plan, or more
abbrev pub IsMark : Source → Number → Bool → Type 0
IsMark program number plain = plain ≡ nat_le (plain_cost program number.slots) number.cost

-- the number of an entry behind these is backed, and its mark is right
pub record IsBackedEntry (setup : Setup) (earlier : List Entry) (e : Entry) : Type 0 where
  pub backed : IsBacked setup.program (number_of setup.program (numbers_of setup earlier) e)
  pub mark : IsMark setup.program (number_of setup.program (numbers_of setup earlier) e) e.plain

-- every number of the journal is backed
pub record IsBackedJournal (setup : Setup) (es : List Entry) : Type 0 where
  pub opening : IsBacked setup.program (opening_number setup)
  pub entries : EachAfter (IsBackedEntry setup) [] es
