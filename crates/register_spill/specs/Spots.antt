-- Where the values of a program are: in a register, in the frame, or nowhere.
use Rattle.std.specs.Prelude.{◌≡◌, ℕ, Bool, true, false, not, ◌==◌, List, slice_index_or}
use Rattle.std.specs.List.{list_any}
use Rattle.x86_instr.specs.declared.operand.Reg.{Reg}
use Rattle.x86_instr.specs.declared.operand.Reg.TheVariants.{Rsp}
use Rattle.x86_instr.specs.Registers.{number_of}
use Rattle.register_spill.specs.declared.spot.Spot.{Spot}
use Rattle.register_spill.specs.declared.spot.Spot.TheVariants.{Register, Frame, Nowhere}

-- the spots of the values, and of each value the slots of the plan that read it
pub record Placed : Type 0 where
  pub spots : List Spot
  pub uses : List (List ℕ)

-- where a value is, by its number; nowhere, where there is no such value
abbrev pub spot_at : List Spot → ℕ → Spot
spot_at spots value = slice_index_or spots value Nowhere

-- the spot is a register
abbrev pub is_in_register : Spot → Bool
is_in_register (Register r) = true
is_in_register (Frame slot) = false
is_in_register Nowhere = false

-- the spot is this register
abbrev pub is_in : Reg → Spot → Bool
is_in r (Register q) = number_of q == number_of r
is_in r (Frame slot) = false
is_in r Nowhere = false

-- no value is in the register
unfoldable pub is_free : List Spot → Reg → Bool
is_free spots r = not (list_any (is_in r) spots)

-- what is true of the spots at every time
pub record ArePlaced (spots : List Spot) : Type 0 where
  -- no register has two values
  pub alone : (v w : ℕ) (r : Reg) → spot_at spots v ≡ Register r → spot_at spots w ≡ Register r → v ≡ w
  -- no value is in the stack pointer
  pub stack : (v : ℕ) → spot_at spots v ≡ Register Rsp → ⊥
  -- a value in the frame is in the slot with its own number
  pub frames : (v slot : ℕ) → spot_at spots v ≡ Frame slot → slot ≡ v
