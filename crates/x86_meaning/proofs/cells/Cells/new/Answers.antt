-- An empty map has no address.
use Rattle.std.proofs.Common.{sym, subst}
use Rattle.x86_meaning.specs.Aligned.{AreAligned}
use Rattle.x86_meaning.proofs.Entries.{aligned_empty, emptied}
use Rattle.x86_meaning.proofs.cells.Cells.new.Goals as goal

pub invariant_of-result : goal.invariant_of-result
invariant_of-result c = subst AreAligned (sym (emptied c.new.result c.new.ensures.empty)) aligned_empty
