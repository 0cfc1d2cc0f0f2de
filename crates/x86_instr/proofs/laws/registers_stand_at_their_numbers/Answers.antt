-- The list computes.
use Rattle.std.proofs.Common.{refl}
use Rattle.x86_instr.proofs.RegisterList.{at_number}
use Rattle.x86_instr.proofs.laws.registers_stand_at_their_numbers.Goals as goal

pub returns : goal.returns
returns c = record { list = refl; numbers = at_number }
