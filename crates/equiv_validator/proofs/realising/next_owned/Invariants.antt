-- The loop over lines without an owner: the owned lines are those of the rest.
use Rattle.std.proofs.Common.{◌≡◌, drop}
use Rattle.equiv_validator.specs.Owned.{owned_in}
use Rattle.equiv_validator.proofs.realising.next_owned.Given as goal

abbrev pub invariant-loop-place : goal.invariant-loop-place
invariant-loop-place l = owned_in l.lines ≡ owned_in (drop l.place l.lines)
