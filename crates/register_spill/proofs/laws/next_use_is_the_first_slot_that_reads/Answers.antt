-- Both by the slots that read the value.
use Rattle.register_spill.proofs.NextUse.{next_is_first, none_reads}
use Rattle.register_spill.proofs.laws.next_use_is_the_first_slot_that_reads.Goals as goal

pub returns : goal.returns
returns c = record { found = next_is_first; none = none_reads }
