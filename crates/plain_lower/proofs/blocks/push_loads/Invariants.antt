-- The loop over the operands, each with lines that load it.
use Rattle.std.proofs.Common.{◌≡◌, ◌++◌, drop}
use Rattle.plain_lower.specs.Blocks as spec
use Rattle.plain_lower.proofs.blocks.push_loads.Given as goal

-- the lines so far and those to come are all
abbrev pub invariant-loop-dst : goal.invariant-loop-dst
invariant-loop-dst l = l.lines ++ spec.load_all l.program l.op (drop l.dst-index l.loads) ≡ l.fn.lines
    ++ spec.load_all l.program l.op l.loads
