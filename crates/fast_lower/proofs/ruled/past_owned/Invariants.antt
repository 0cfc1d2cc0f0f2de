-- The loop over the lines that are passed: what is left is behind those so far.
use Rattle.std.proofs.Common.{◌≡◌, drop}
use Rattle.fast_lower.specs.Sources.{owned_instrs}
use Rattle.fast_lower.proofs.ruled.past_owned.Given as goal

abbrev pub invariant-loop : goal.invariant-loop
invariant-loop l = owned_instrs l.left ≡ drop l.counter (owned_instrs l.lines)
