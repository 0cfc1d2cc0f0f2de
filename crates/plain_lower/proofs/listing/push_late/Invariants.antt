-- The loop over the results, each with lines that store it late where it is an output word.
use Rattle.std.proofs.Common.{◌≡◌, ◌++◌, drop}
use Rattle.plain_lower.specs.Plain as spec
use Rattle.plain_lower.proofs.listing.push_late.Given as goal

-- the lines so far and those to come are all
abbrev pub invariant-loop-value : goal.invariant-loop-value
invariant-loop-value l = l.lines ++ spec.late_from l.program l.value (drop l.value l.targets) ≡ l.fn.lines
    ++ spec.late_from l.program 0 l.targets
