-- The loop over the slots, each with a block.
use Rattle.std.proofs.Common.{◌≡◌, ◌++◌, drop}
use Rattle.fast_lower.specs.FallBack as spec
use Rattle.fast_lower.proofs.fall_back_listing.push_blocks.Given as goal

-- the lines so far and the blocks to come are all
abbrev pub invariant-loop-slot : goal.invariant-loop-slot
invariant-loop-slot l = l.lines ++ spec.blocks l.program (drop l.slot-index l.slots) ≡ l.fn.lines
    ++ spec.blocks l.program l.slots
