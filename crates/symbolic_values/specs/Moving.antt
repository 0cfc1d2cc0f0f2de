-- What the answer of a step's code says of the step.
use Rattle.std.specs.Prelude.{◌≡◌, ℕ, ◌+◌, ◌≤◌, List, length, Result, IfOk, OnErr}
use Rattle.terms.specs.declared.nodes.Node.{Node}
use Rattle.terms.specs.Tables.{Prefix}
use Rattle.symbolic_values.specs.declared.moved.Moved.{Moved}
use Rattle.symbolic_values.specs.declared.moved.Moved.TheVariants.{Done, Stuck}
use Rattle.symbolic_state.specs.Symbols.{Symbols}
use Rattle.symbolic_values.specs.Steps.{Step, goes, stuck}

-- The step is done, and leads to this table and the new state; or it is stuck with this table, and the state is the old
-- one.
abbrev pub IsStep : Moved → Step → List Node → Symbols → Symbols → Type 0
IsStep Done step table old new = goes table new ≡ step
IsStep Stuck step table old new = (stuck table ≡ step) × (new ≡ old)

-- The step ended so, or for want of memory: then the table is a first part of the one that the whole step leaves, and
-- the state is the old one. In every case the table goes on, by at most `most` nodes.
abbrev pub Leaves : {E : Type 0} → ℕ → Step → Result Moved E → List Node → List Node → Symbols → Symbols → Type 0
Leaves most step answer table longer old new = IfOk answer (λ moved. IsStep moved step longer old new)
    × OnErr answer (Prefix longer step.table) × OnErr answer (new ≡ old) × Prefix table longer
    × (length longer ≤ length table + most)
