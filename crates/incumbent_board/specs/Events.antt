-- What a list of events does to a board: looks and offers of its lanes, in order. An offer that is foreign does
-- nothing.
use Rattle.std.specs.Prelude.{◌≡◌, ℕ, ◌<◌, ◌+◌, List, [], ◌∷◌, ◌++◌, length, nat_lt, count_by, Bool, true, false}
use Rattle.std.specs.Prelude.{if◌then◌else◌}
use Rattle.journal_rules.specs.Legal.{turns_of}
use Rattle.journal_rules.specs.Machine as machine
use Rattle.incumbent_board.specs.declared.events.Event.{Event}
use Rattle.incumbent_board.specs.declared.events.Event.TheVariants.{Look, Settle}
use Rattle.incumbent_board.specs.declared.offer.Offer.{Offer}
use Rattle.incumbent_board.specs.declared.offer.Settled.{Settled}
use Rattle.incumbent_board.specs.declared.offer.Settled.TheVariants.{Accepted, Kept, Foreign}
use Rattle.incumbent_board.specs.Views.{BoardView, machine_of}
use Rattle.incumbent_board.specs.Calls.{looked_at, offered_cost, IsSettled}

-- a look of a lane that exists
abbrev pub IsPlayable : ℕ → Event → Type 0
IsPlayable lanes (Look lane) = lane < lanes
IsPlayable lanes (Settle lane offer) = Unit {0}

-- the board after a look: as before, where all turns of the lane are settled
abbrev pub after_look : BoardView → ℕ → BoardView
after_look b lane = if nat_lt (turns_of lane b.entries) b.setup.turns then looked_at b lane else b

-- the events of the machine that the answer to an offer is: one where the offer was taken, with its cost and its mark
abbrev pub steps_of : ℕ → Offer → Settled → List machine.Event
steps_of lane offer (Accepted n) = machine.Settle lane (offered_cost offer) offer.plain ∷ []
steps_of lane offer (Kept n) = machine.Settle lane (offered_cost offer) offer.plain ∷ []
steps_of lane offer (Foreign back) = []

-- how many entries the answer to an offer makes
abbrev pub entries_made : Settled → ℕ
entries_made (Accepted n) = 1
entries_made (Kept n) = 1
entries_made (Foreign back) = 0

-- These events lead from the one board to the other, each as a look or an offer does; and these are the events of the
-- machine that they are, without the offers that were foreign, in their order.
abbrev pub IsPlayed : BoardView → List Event → List machine.Event → BoardView → Type 0
IsPlayed old [] steps new = (steps ≡ []) × (new ≡ old)
IsPlayed old (Look lane ∷ events) steps new = (rest : List machine.Event) × (steps ≡ machine.Look lane ∷ rest)
    × IsPlayed (after_look old lane) events rest new
IsPlayed old (Settle lane offer ∷ events) steps new =
    (answer : Settled) × (mid : BoardView) × (rest : List machine.Event)
    × IsSettled old lane offer answer mid × (steps ≡ steps_of lane offer answer ++ rest) × IsPlayed mid events rest new

abbrev pub is_settle : machine.Event → Bool
is_settle (machine.Look lane) = false
is_settle (machine.Settle lane cost plain) = true

-- how many offers were taken
abbrev pub taken_in : List machine.Event → ℕ
taken_in steps = count_by is_settle steps

-- these events lead from the one board to the other, of the same search, and so many offers were taken, each of which
-- is an entry
pub record HasPlayed (old : BoardView) (events : List Event) (new : BoardView) (taken : ℕ) : Type 0 where
  pub steps : List machine.Event
  pub played : IsPlayed old events steps new
  pub run : machine.Run old.setup (machine_of old) steps (machine_of new)
  pub count : taken ≡ taken_in steps
  pub setup : new.setup ≡ old.setup
  pub grown : length new.entries ≡ length old.entries + taken
