-- The slots so far have the template, where their operations are marked.
use Rattle.std.proofs.Common.{◌≡◌, ◌++◌, map, take, drop}
use Rattle.mutations.specs.Marks.{templated_by}
use Rattle.mutations.proofs.chains.set_marked.Given as goal

abbrev pub invariant-loop-at : goal.invariant-loop-at
invariant-loop-at l = record {
  slots : l.plan.slots ≡ map (templated_by l.marks l.number) (take l.at l.fn.plan.slots) ++ drop l.at l.fn.plan.slots;
  room : l.plan.room ≡ l.fn.plan.room;
}
