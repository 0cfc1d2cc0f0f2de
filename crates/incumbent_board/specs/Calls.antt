-- What looks and offers do to a board.
use Rattle.std.specs.Prelude.{◌≡◌, ℕ, suc, ◌<◌, ◌≤◌, [], ◌∷◌, ◌++◌, length, map, Some, None, slice_get}
use Rattle.std.specs.Prelude.{slice_index, slice_set}
use Rattle.mutations.specs.Words.{words_of}
use Rattle.mutations.specs.Mutations.{applied, drawn}
use Rattle.mutations.specs.declared.mutation.Mutation.{Mutation}
use Rattle.cost_table.specs.Costs.{cost_of}
use Rattle.equiv_validator.specs.Kept.{CheckedListing}
use Rattle.journal_rules.specs.declared.journal.Entry.{Entry}
use Rattle.journal_rules.specs.Numbers.{Setup}
use Rattle.journal_rules.specs.Legal.{turns_of}
use Rattle.journal_rules.specs.Machine.{Step, Settle}
use Rattle.incumbent_board.specs.declared.offer.Offer.{Offer}
use Rattle.incumbent_board.specs.declared.offer.Sight.{Sight}
use Rattle.incumbent_board.specs.declared.offer.Settled.{Settled}
use Rattle.incumbent_board.specs.declared.offer.Settled.TheVariants.{Accepted, Kept, Foreign}
use Rattle.incumbent_board.specs.Views.{Look, BoardView, machine_of}

-- ---- the start

-- no entry, no look, and the opening as the incumbent
abbrev pub begun : Setup → CheckedListing → BoardView
begun setup opening = record {
  setup = setup;
  entries = [];
  looks = map (λ seed. None) setup.seeds;
  best = 0;
  incumbent = opening;
}

-- ---- looks

-- what a lane is told that looks
abbrev pub sight_of : BoardView → ℕ → Sight
sight_of b lane = record {
  lane = lane;
  turn = turns_of lane b.entries;
  seen = length b.entries;
  seed = slice_index b.setup.seeds lane;
  draw = b.setup.draw;
}

-- the lane looks at the incumbent
abbrev pub looked_at : BoardView → ℕ → BoardView
looked_at b lane = record {
  setup = b.setup;
  entries = b.entries;
  looks = slice_set b.looks lane (Some (record { seen = length b.entries; slots = b.incumbent.plan.slots }));
  best = b.best;
  incumbent = b.incumbent;
}

-- ---- offers

abbrev pub offered_cost : Offer → ℕ
offered_cost offer = cost_of offer.checked.listing.lines

abbrev pub least_cost : BoardView → ℕ
least_cost b = cost_of b.incumbent.listing.lines

-- the mutation that the lane's seed and next turn draw for the plan of its look
abbrev pub mutation_due : BoardView → ℕ → Look → Mutation
mutation_due b lane look =
    drawn b.setup.program look.slots (words_of (slice_index b.setup.seeds lane) (turns_of lane b.entries)) b.setup.draw

-- the offer is the one that the lane owes for this look: it is the lane's, at its next turn, for the board's program,
-- and its plan is that of the look after the mutation that is due
pub record IsDue (b : BoardView) (at : ℕ) (offer : Offer) (look : Look) : Type 0 where
  pub there : slice_get b.looks at ≡ Some (Some look)
  pub lane : offer.lane ≡ at
  pub turn : offer.turn ≡ turns_of at b.entries
  pub program : offer.checked.program ≡ b.setup.program
  pub plan : offer.checked.plan.slots ≡ applied b.setup.program (mutation_due b at look) look.slots

-- the lane owes no such offer
abbrev pub IsForeign : BoardView → ℕ → Offer → Type 0
IsForeign b lane offer = (look : Look) → IsDue b lane offer look → ⊥

-- the entry of the offer
abbrev pub entry_due : BoardView → ℕ → Look → Offer → Entry
entry_due b lane look offer = record {
  lane = lane;
  turn = turns_of lane b.entries;
  seen = look.seen;
  mutation = mutation_due b lane look;
  cost = offered_cost offer;
  plain = offer.plain;
}

-- the entry is appended, and the look ends; this is the best number, and this the incumbent
abbrev pub entered : BoardView → ℕ → Entry → ℕ → CheckedListing → BoardView
entered b lane e best incumbent = record {
  setup = b.setup;
  entries = b.entries ++ e ∷ [];
  looks = slice_set b.looks lane None;
  best = best;
  incumbent = incumbent;
}

-- An offer that is due is accepted where it costs at most as much as the incumbent, and is the incumbent then; else the
-- incumbent is kept. Every other offer comes back, and nothing changes.
abbrev pub IsSettled : BoardView → ℕ → Offer → Settled → BoardView → Type 0
IsSettled old lane offer (Accepted n) new = (look : Look) × IsDue old lane offer look
    × (offered_cost offer ≤ least_cost old) × (n ≡ suc (length old.entries))
    × (new ≡ entered old lane (entry_due old lane look offer) n offer.checked)
IsSettled old lane offer (Kept n) new = (look : Look) × IsDue old lane offer look
    × (least_cost old < offered_cost offer) × (n ≡ suc (length old.entries))
    × (new ≡ entered old lane (entry_due old lane look offer) old.best old.incumbent)
IsSettled old lane offer (Foreign back) new = IsForeign old lane offer × (back ≡ offer) × (new ≡ old)

-- An offer that is taken is a step of the machine, with its cost and its mark; one that is foreign is none.
abbrev pub IsEvent : BoardView → ℕ → Offer → Settled → BoardView → Type 0
IsEvent old lane offer (Accepted n) new =
    Step old.setup (machine_of old) (Settle lane (offered_cost offer) offer.plain) (machine_of new)
IsEvent old lane offer (Kept n) new =
    Step old.setup (machine_of old) (Settle lane (offered_cost offer) offer.plain) (machine_of new)
IsEvent old lane offer (Foreign back) new = Unit {0}
