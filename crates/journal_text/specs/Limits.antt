-- The limits of a journal's numbers, within which it has a text.
use Rattle.std.specs.Prelude.{◌≡◌, ◌<◌, ◌≤◌, ◌^◌, ◌*◌, length}
use Rattle.std.specs.List.{AllByRecursion}
use Rattle.hex.specs.Hex.{IsBytes}
use Rattle.mutations.specs.declared.mutation.Draw.{Draw}
use Rattle.mutations.specs.declared.mutation.Draw.TheVariants.{Two}
use Rattle.mutations.specs.declared.mutation.Mutation.{Mutation}
use Rattle.mutations.specs.declared.mutation.Mutation.TheVariants.{Move, Template, Swap, Load, Chain}
use Rattle.journal_rules.specs.declared.journal.Entry.{Entry}
use Rattle.journal_rules.specs.declared.journal.Journal.{Journal}
use Rattle.journal_text.specs.declared.limits.TheConstants.{MAX_SEEDS, MAX_TURNS, MAX_ENTRIES, MAX_COST, MAX_LANE}
use Rattle.journal_text.specs.declared.limits.TheConstants.{MAX_TURN, MAX_SEEN, MAX_SLOT, MAX_TEMPLATE, MAX_CHAIN}

-- a chain is a mutation of version 2 alone
abbrev pub IsMutationWithin : Draw → Mutation → Type 0
IsMutationWithin draw (Move slot to) = (slot ≤ MAX_SLOT) × (to ≤ MAX_SLOT)
IsMutationWithin draw (Template slot number) = (slot ≤ MAX_SLOT) × (number ≤ MAX_TEMPLATE)
IsMutationWithin draw (Swap slot) = slot ≤ MAX_SLOT
IsMutationWithin draw (Load slot) = slot ≤ MAX_SLOT
IsMutationWithin draw (Chain slot number) = (draw ≡ Two) × (slot ≤ MAX_SLOT) × (1 ≤ number) × (number ≤ MAX_CHAIN)

pub record IsEntryWithin (draw : Draw) (e : Entry) : Type 0 where
  pub lane : e.lane ≤ MAX_LANE
  pub turn : e.turn ≤ MAX_TURN
  pub seen : e.seen ≤ MAX_SEEN
  pub mutation : IsMutationWithin draw e.mutation
  pub cost : e.cost ≤ MAX_COST

pub record IsWithin (j : Journal) : Type 0 where
  pub lanes : (1 ≤ length j.seeds) × (length j.seeds ≤ MAX_SEEDS)
  pub turns : j.turns ≤ MAX_TURNS
  pub offers : length j.seeds * j.turns ≤ MAX_ENTRIES
  pub opening : j.opening ≤ MAX_COST
  pub count : length j.entries ≤ MAX_ENTRIES
  pub each : AllByRecursion (IsEntryWithin j.draw) j.entries

-- the digest has 32 bytes, and each seed 64 bits: the code's types say so of each journal
pub record IsTyped (j : Journal) : Type 0 where
  pub digest : length j.digest ≡ 32
  pub bytes : IsBytes j.digest
  pub seeds : AllByRecursion (λ seed. seed < 2 ^ 64) j.seeds
