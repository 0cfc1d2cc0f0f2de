-- The operations of the chain so far are marked.
use Rattle.mutations.proofs.Marking.{IsWalk}
use Rattle.mutations.proofs.chains.chain_marks.Given as goal

abbrev pub invariant-loop-op : goal.invariant-loop-op
invariant-loop-op l = IsWalk l.program l.first l.marks l.carry l.value l.op
