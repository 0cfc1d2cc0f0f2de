-- What every board keeps.
use Rattle.std.specs.Prelude.{◌≡◌, ℕ, length, Some, slice_get}
use Rattle.op_order.specs.Legal.{IsLegal}
use Rattle.cost_table.specs.Costs.{cost_of}
use Rattle.equiv_validator.specs.Kept.{HasChecks}
use Rattle.journal_rules.specs.Numbers.{IsLimited, numbers_of, plan_seen, cost_at, plan_at, incumbent_at}
use Rattle.journal_rules.specs.Machine.{IsMachine}
use Rattle.journal_rules.specs.Backed.{IsBackedJournal}
use Rattle.incumbent_board.specs.Views.{Look, BoardView, machine_of}

-- the plan of a look is that of the incumbent after as many entries as it saw
pub record IsKeptLook (b : BoardView) (look : Look) : Type 0 where
  pub plan : look.slots ≡ plan_seen (numbers_of b.setup b.entries) look.seen
  pub legal : IsLegal b.setup.program look.slots

-- the incumbent is the last number of least cost: its listing has this cost, comes from its plan, and is checked, and
-- so correct
pub record HasIncumbent (b : BoardView) : Type 0 where
  pub best : b.best ≡ incumbent_at b.setup b.entries (length b.entries)
  pub program : b.incumbent.program ≡ b.setup.program
  pub plan : b.incumbent.plan.slots ≡ plan_at b.setup b.entries b.best
  pub cost : cost_of b.incumbent.listing.lines ≡ cost_at b.setup b.entries b.best
  pub checks : HasChecks b.incumbent

pub record IsBoard (b : BoardView) : Type 0 where
  pub limits : IsLimited b.setup
  -- the journal is legal, and each look can be settled
  pub machine : IsMachine b.setup (machine_of b)
  pub plans : (lane : ℕ) (look : Look) → slice_get b.looks lane ≡ Some (Some look) → IsKeptLook b look
  pub incumbent : HasIncumbent b
  -- of every number some listing was checked, and the marks are right
  pub backed : IsBackedJournal b.setup b.entries
