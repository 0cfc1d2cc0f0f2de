-- What a worker does next.
use Rattle.std.specs.Prelude.{List}
use Rattle.word_program.specs.Program.{Source}
use Rattle.op_order.specs.declared.slot.Slot.{Slot}
use Rattle.op_order.specs.Legal.{IsLegal}
use Rattle.search_workers.specs.declared.rounds.Next.{Next}
use Rattle.search_workers.specs.declared.rounds.Next.TheVariants.{Offer, Leave, Stop}

-- where it makes an offer, the plan that it looked at is legal
abbrev pub IsNext : Source → List Slot → Next → Type 0
IsNext program slots (Offer sight) = IsLegal program slots
IsNext program slots Leave = Unit {0}
IsNext program slots Stop = Unit {0}
