-- The values of all operations are those of the ones that are left, behind the values so far.
use Rattle.std.proofs.Common.{◌≡◌, [], drop}
use Rattle.word_program.specs.Values.{values_on}
use Rattle.word_program.proofs.evaluation.values_of.Given as goal

abbrev pub invariant-loop-op : goal.invariant-loop-op
invariant-loop-op l = values_on l.params l.inputs [] l.ops ≡ values_on l.params l.inputs l.so_far.items
    (drop l.op-index l.ops)
