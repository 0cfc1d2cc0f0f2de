-- The lists so far are empty.
use Rattle.std.proofs.Common.{◌≡◌, [], replicate}
use Rattle.register_spill.proofs.uses.empty_lists.Given as goal

abbrev pub invariant-loop : goal.invariant-loop
invariant-loop l = l.lists.items ≡ replicate l.counter []
