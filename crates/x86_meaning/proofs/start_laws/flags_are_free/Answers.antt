-- That the flags may be anything at the start.
use Rattle.x86_meaning.proofs.FreeStates.{free_flags}
use Rattle.x86_meaning.proofs.start_laws.flags_are_free.Goals as goal

pub returns : goal.returns
returns c = free_flags
