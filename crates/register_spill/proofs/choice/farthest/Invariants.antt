-- The best so far is the farthest of the registers so far.
use Rattle.std.proofs.Common.{◌≡◌, take}
use Rattle.x86_instr.specs.Registers.{registers}
use Rattle.register_spill.specs.Choosing.{farthest_of}
use Rattle.register_spill.proofs.choice.farthest.Given as goal

abbrev pub invariant-loop-reg : goal.invariant-loop-reg
invariant-loop-reg l = l.best ≡ farthest_of l.holders l.uses l.now l.pinned.bits (take l.reg-index registers)
