-- The loop over lines without an owner: the owned instructions are those of the rest.
use Rattle.std.proofs.Common.{◌≡◌, drop}
use Rattle.fast_lower.specs.Sources.{owned_instrs}
use Rattle.fast_lower.proofs.ruled.next_owned.Given as goal

abbrev pub invariant-loop-place : goal.invariant-loop-place
invariant-loop-place l = owned_instrs l.lines ≡ owned_instrs (drop l.place l.lines)
