-- What the laws of this crate say.
use Rattle.std.specs.Prelude.{◌≡◌, ℕ, suc, ◌<◌, ◌≤◌, List, length, Some, slice_get}
use Rattle.op_order.specs.Plans.{opening_of}
use Rattle.mutations.specs.Mutations.{applied}
use Rattle.journal_rules.specs.declared.journal.Entry.{Entry}
use Rattle.journal_rules.specs.Numbers.{Setup, numbers_of, cost_at, plan_at, incumbent_at, parent_of}

-- the number is the last one of least cost among those from 0 to j
pub record IsIncumbent (setup : Setup) (es : List Entry) (j at : ℕ) : Type 0 where
  pub there : at ≤ j
  pub least : (k : ℕ) → k ≤ j → cost_at setup es at ≤ cost_at setup es k
  pub last : (k : ℕ) → at < k → k ≤ j → cost_at setup es at < cost_at setup es k

-- the costs and plans of the numbers: of the opening; and of the entries, which saw no entry from themselves on
pub record HasPlans (setup : Setup) (es : List Entry) : Type 0 where
  pub count : length (numbers_of setup es) ≡ suc (length es)
  pub opening_cost : cost_at setup es 0 ≡ setup.opening
  pub opening_plan : plan_at setup es 0 ≡ opening_of setup.program
  pub cost : (k : ℕ) (e : Entry) → slice_get es k ≡ Some e → cost_at setup es (suc k) ≡ e.cost
  pub plan : (k : ℕ) (e : Entry) → slice_get es k ≡ Some e → e.seen ≤ k
      → plan_at setup es (suc k) ≡ applied setup.program e.mutation (plan_at setup es (parent_of setup es e))
  pub incumbent : (j : ℕ) → IsIncumbent setup es j (incumbent_at setup es j)
