-- The offer that a look asks for.
use Rattle.std.specs.Prelude.{◌≡◌, ℕ, true, List, slice_index}
use Rattle.word_program.specs.Program.{Source}
use Rattle.op_order.specs.declared.slot.Slot.{Slot}
use Rattle.mutations.specs.Words.{words_of}
use Rattle.mutations.specs.Mutations.{applied, drawn}
use Rattle.plain_lower.specs.Plain.{plain_listing}
use Rattle.journal_rules.specs.Legal.{turns_of}
use Rattle.incumbent_board.specs.declared.offer.Offer.{Offer}
use Rattle.incumbent_board.specs.declared.offer.Sight.{Sight}
use Rattle.incumbent_board.specs.Views.{BoardView}

-- the plan after the mutation that the sight's seed draws for it at the sight's turn
abbrev pub plan_for : Source → Sight → List Slot → List Slot
plan_for program sight slots =
    applied program (drawn program slots (words_of sight.seed sight.turn) sight.draw) slots

-- the offer is the sight's lane's, at its turn, of the program, and its plan has these slots
pub record IsOfferWith (program : Source) (sight : Sight) (slots : List Slot) (offer : Offer) : Type 0 where
  pub lane : offer.lane ≡ sight.lane
  pub turn : offer.turn ≡ sight.turn
  pub program_is : offer.checked.program ≡ program
  pub plan : offer.checked.plan.slots ≡ slots

-- the same, and its plan is that after the mutation
abbrev pub IsOfferFor : Source → Sight → List Slot → Offer → Type 0
IsOfferFor program sight slots offer = IsOfferWith program sight (plan_for program sight slots) offer

-- an offer that is marked as plain has the plain listing of its plan
abbrev pub IsPlainWhereMarked : Offer → Type 0
IsPlainWhereMarked offer = offer.plain ≡ true
    → offer.checked.listing ≡ plain_listing offer.checked.program offer.checked.plan.slots

-- the sight tells the lane's next turn and its seed, and the draw of the search
pub record IsSightOf (b : BoardView) (at : ℕ) (sight : Sight) : Type 0 where
  pub lane : sight.lane ≡ at
  pub turn : sight.turn ≡ turns_of at b.entries
  pub seed : sight.seed ≡ slice_index b.setup.seeds at
  pub draw : sight.draw ≡ b.setup.draw
