-- An instruction with the number of the operation that owns it.
use Rattle.std.specs.Prelude.{ℕ, Option}
use Rattle.x86_instr.specs.declared.instr.Instr.{Instr}

pub record OwnedInstr : Type 0 where
  pub instr : Instr
  pub owner : Option ℕ
