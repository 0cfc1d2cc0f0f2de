-- A program has at most 4,096 values.
use Rattle.std.proofs.Common.{arith}
use Rattle.word_program.proofs.AcceptedLemmas.{kept_accepted}
use Rattle.word_program.proofs.program.Program.values.Goals as goal

pub overflow_cast-result : goal.overflow_cast-result
overflow_cast-result c =
    let limit = (kept_accepted _ _ _ c.self.invariant).values_limit in
    let same = c.self.invariant.targets_kept in
    rw (c.as_slice.ensures.value, same) (omega arith)
