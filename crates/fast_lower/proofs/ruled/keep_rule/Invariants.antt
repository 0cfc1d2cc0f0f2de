-- The loop over the slots: all keep the rule where those to come keep it in what is left.
use Rattle.std.proofs.Common.{◌≡◌, drop}
use Rattle.fast_lower.specs.Sources as spec
use Rattle.fast_lower.proofs.ruled.keep_rule.Given as goal

abbrev pub invariant-loop-slot : goal.invariant-loop-slot
invariant-loop-slot l = spec.keep_rule l.program l.slots (spec.owned_instrs l.lines)
    ≡ spec.keep_rule l.program (drop l.slot-index l.slots) (spec.owned_instrs l.left)
