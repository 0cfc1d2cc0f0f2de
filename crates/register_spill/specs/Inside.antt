-- What is kept beside the spots, so that no call walks over them: for each register, by its number, the value in it.
use Rattle.std.specs.Prelude.{◌≡◌, ℕ, List, Option, Some, None, length, slice_index_or}
use Rattle.std.specs.List.Sorted.{IsNonDecreasing}
use Rattle.x86_instr.specs.declared.operand.Reg.{Reg}
use Rattle.x86_instr.specs.declared.operand.Reg.TheVariants.{Rsp}
use Rattle.x86_instr.specs.Registers.{number_of}
use Rattle.register_spill.specs.declared.spot.Spot.{Spot}
use Rattle.register_spill.specs.declared.spot.Spot.TheVariants.{Register, Frame}
use Rattle.register_spill.specs.Spots.{spot_at}
use Rattle.register_spill.specs.Uses.{uses_at}

-- the value in a register
abbrev pub holder_at : List (Option ℕ) → Reg → Option ℕ
holder_at holders r = slice_index_or holders (number_of r) None

pub record IsInside (spots : List Spot) (holders : List (Option ℕ)) (uses : List (List ℕ)) : Type 0 where
  pub size : length holders ≡ 16
  pub holds : (value : ℕ) (r : Reg) → spot_at spots value ≡ Register r → holder_at holders r ≡ Some value
  pub held : (value : ℕ) (r : Reg) → holder_at holders r ≡ Some value → spot_at spots value ≡ Register r
  pub stack : holder_at holders Rsp ≡ None
  pub frames : (value slot : ℕ) → spot_at spots value ≡ Frame slot → slot ≡ value
  pub lists : length uses ≡ length spots
  pub ascending : (value : ℕ) → IsNonDecreasing (uses_at uses value)
