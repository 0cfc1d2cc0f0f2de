-- The loop over the lines, each put at the end.
use Rattle.std.proofs.Common.{◌≡◌, ◌++◌, drop, map}
use Rattle.fast_lower.specs.FallBack as spec
use Rattle.fast_lower.proofs.moved.push_sourced.Given as goal

-- the lines so far and those to come are all
abbrev pub invariant-loop-line : goal.invariant-loop-line
invariant-loop-line l = l.lines ++ map (spec.line_sourced l.mem) (drop l.line-index l.middle) ≡ l.fn.lines
    ++ map (spec.line_sourced l.mem) l.middle
