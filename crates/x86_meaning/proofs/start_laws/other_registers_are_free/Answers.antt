-- That a register without a use at the start may hold any word.
use Rattle.x86_meaning.proofs.FreeStates.{register_is_free}
use Rattle.x86_meaning.proofs.start_laws.other_registers_are_free.Goals as goal

pub returns : goal.returns
returns c = register_is_free
