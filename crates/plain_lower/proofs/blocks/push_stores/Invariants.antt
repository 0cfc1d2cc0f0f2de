-- The loop over the results, each with lines that store it.
use Rattle.std.proofs.Common.{◌≡◌, ◌++◌, drop}
use Rattle.plain_lower.specs.Blocks as spec
use Rattle.plain_lower.proofs.blocks.push_stores.Given as goal

-- the lines so far and those to come are all
abbrev pub invariant-loop-src : goal.invariant-loop-src
invariant-loop-src l = l.lines ++ spec.store_all l.program l.value l.op (drop l.src-index l.saves) ≡ l.fn.lines
    ++ spec.store_all l.program l.value l.op l.saves
