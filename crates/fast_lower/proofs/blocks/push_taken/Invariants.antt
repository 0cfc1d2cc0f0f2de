-- The loop over the operands, each with lines that load it.
use Rattle.std.proofs.Common.{◌≡◌, ◌++◌, drop}
use Rattle.fast_lower.specs.FallBack as spec
use Rattle.fast_lower.proofs.blocks.push_taken.Given as goal

-- the lines so far and those to come are all
abbrev pub invariant-loop-dst : goal.invariant-loop-dst
invariant-loop-dst l = l.lines ++ spec.load_taken l.program l.slot l.op (drop l.dst-index l.loads) ≡ l.fn.lines
    ++ spec.load_taken l.program l.slot l.op l.loads
