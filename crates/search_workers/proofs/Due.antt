-- Offers for a look that a board keeps.
use Rattle.std.proofs.Common.{◌≡◌, ℕ, ◌<◌, List, length, subst, refl, sym, ◌∙◌, arith}
use Rattle.std.specs.Prelude.{Some, slice_get}
use Rattle.word_program.specs.Program.{Source}
use Rattle.op_order.specs.declared.slot.Slot.{Slot}
use Rattle.mutations.specs.Words.{words_of}
use Rattle.mutations.specs.Mutations.{applied, drawn}
use Rattle.journal_rules.proofs.Lists.{get_set_same}
use Rattle.incumbent_board.specs.declared.offer.Offer.{Offer}
use Rattle.incumbent_board.specs.declared.offer.Sight.{Sight}
use Rattle.incumbent_board.specs.Views.{BoardView, Look}
use Rattle.incumbent_board.specs.BoardOk.{IsBoard}
use Rattle.incumbent_board.specs.Calls.{IsDue, looked_at, sight_of}
use Rattle.incumbent_board.proofs.Kept.{lanes_are}
use Rattle.search_workers.specs.Offers.{IsOfferFor, IsSightOf}

pub offers_due : (b : BoardView) (lane : ℕ) (look : Look) (sight : Sight) (offer : Offer)
    → slice_get b.looks lane ≡ Some (Some look) → IsSightOf b lane sight
    → IsOfferFor b.setup.program sight look.slots offer → IsDue b lane offer look
offers_due b lane look sight offer at of for = record {
  there = at;
  lane = for.lane ∙ of.lane;
  turn = for.turn ∙ of.turn;
  program = for.program_is;
  plan = for.plan ∙ (λ i. applied b.setup.program
      (drawn b.setup.program look.slots (words_of (of.seed i) (of.turn i)) (of.draw i)) look.slots);
}

-- the offer for a look that was just taken is the one that the lane owes
pub due_after : (b : BoardView) (lane : ℕ) (offer : Offer) → IsBoard b → lane < length b.setup.seeds
    → IsOfferFor b.setup.program (sight_of b lane) b.incumbent.plan.slots offer
    → (look : Look) × IsDue (looked_at b lane) lane offer look
due_after b lane offer is low for =
    let look : Look = record { seen = length b.entries; slots = b.incumbent.plan.slots } in
    let lanes = lanes_are b is in
    let sight : IsSightOf (looked_at b lane) lane (sight_of b lane) =
    record { lane = refl; turn = refl; seed = refl; draw = refl } in (
      look,
      offers_due (looked_at b lane) lane look (sight_of b lane) offer
          (get_set_same b.looks lane (Some look) (omega arith)) sight for,
    )

-- the same, where its parts are told by equations
pub due_made : (old new : BoardView) (program : Source) (lane : ℕ) (sight : Sight) (slots : List Slot) (offer : Offer)
    → IsBoard old → lane < length old.setup.seeds → program ≡ old.setup.program → sight ≡ sight_of old lane
    → slots ≡ old.incumbent.plan.slots → new ≡ looked_at old lane → IsOfferFor program sight slots offer
    → (look : Look) × IsDue new lane offer look
due_made old new program lane sight slots offer is low same sees plan looks for =
    let planned = subst (λ (l : List Slot). IsOfferFor program sight l offer) plan for in
    let seen = subst (λ (s : Sight). IsOfferFor program s old.incumbent.plan.slots offer) sees planned in
    let of_board = subst (λ (p : Source). IsOfferFor p (sight_of old lane) old.incumbent.plan.slots offer) same seen in
    subst (λ (b : BoardView). (look : Look) × IsDue b lane offer look) (sym looks)
    (due_after old lane offer is low of_board)
