-- How the code sets the template of a chain; no part of a promise. It marks the operations of the chain by their
-- numbers.
use Rattle.std.specs.Prelude.{◌≡◌, ℕ, ◌<◌, Bool, false, List, slice_index_or, if◌then◌else◌}
use Rattle.base.specs.declared.limits.TheConstants.{MAX_OPERATIONS}
use Rattle.dependency_graph.specs.Needs.{has}
use Rattle.op_order.specs.declared.slot.Slot.{Slot}
use Rattle.mutations.specs.Mutations.{with_template}

-- the numbers that are marked are those of the list
abbrev pub AreMarks : List Bool → List ℕ → Type 0
AreMarks marks ops = (op : ℕ) → op < MAX_OPERATIONS → slice_index_or marks op false ≡ has op ops

-- the slot with this template where its operation is marked, and else as it is
abbrev pub templated_by : List Bool → ℕ → Slot → Slot
templated_by marks number slot = if slice_index_or marks slot.op false then with_template number slot else slot
