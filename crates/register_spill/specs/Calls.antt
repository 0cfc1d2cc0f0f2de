-- What the calls do.
use Rattle.std.specs.Prelude.{◌≡◌, ℕ, ◌^◌, ◌/◌, ◌%◌, Bool, true, false, not, ◌&&◌, ◌==◌, List, Option, Some, None}
use Rattle.std.specs.Prelude.{slice_set}
use Rattle.std.specs.List.{find, list_any}
use Rattle.std.specs.Option.{MatchOption}
use Rattle.x86_instr.specs.declared.operand.Reg.{Reg}
use Rattle.x86_instr.specs.declared.operand.Reg.TheVariants.{Rsp}
use Rattle.x86_instr.specs.Registers.{number_of, registers}
use Rattle.register_spill.specs.declared.spot.Spot.{Spot}
use Rattle.register_spill.specs.declared.spot.Spot.TheVariants.{Register, Frame, Nowhere}
use Rattle.register_spill.specs.declared.spot.Taken.{Taken}
use Rattle.register_spill.specs.Spots.{Placed, spot_at, is_free}
use Rattle.register_spill.specs.Uses.{is_farther}

-- ---- registers

-- the register is in the set that has these bits
abbrev pub is_pinned : ℕ → Reg → Bool
is_pinned bits r = (bits / 2 ^ number_of r) % 2 == 1

-- the register is the stack pointer
abbrev pub is_stack : Reg → Bool
is_stack r = number_of r == number_of Rsp

-- a value may be put into the register: it is not the stack pointer, and not in the set
abbrev pub is_open : ℕ → Reg → Bool
is_open bits r = not (is_stack r) && not (is_pinned bits r)

-- there is a register into which a value may be put
unfoldable pub some_open : ℕ → Bool
some_open bits = list_any (is_open bits) registers

-- the first register into which a value may be put, and in which none is
unfoldable pub first_free : List Spot → ℕ → Option Reg
first_free spots bits = find (λ r. is_open bits r && is_free spots r) registers

-- ---- spots that change

-- one value has this spot, and each other value is where it was
abbrev pub with_spot : Placed → ℕ → Spot → Placed
with_spot placed value spot = record { spots = slice_set placed.spots value spot; uses = placed.uses }

-- the value is nowhere
abbrev pub released : Placed → ℕ → Placed
released placed value = with_spot placed value Nowhere

-- of the values in registers that are not pinned, this one has the farthest next use, and it is in this register
pub record IsFarthest (placed : Placed) (now bits value : ℕ) (reg : Reg) : Type 0 where
  pub there : spot_at placed.spots value ≡ Register reg
  pub may_go : is_open bits reg ≡ true
  pub farthest : (other : ℕ) (r : Reg) → spot_at placed.spots other ≡ Register r → is_open bits r ≡ true
      → (other ≡ value → ⊥) → is_farther placed.uses now value other ≡ true

-- the value comes into the register of the one that has the farthest next use, which goes to its slot of the frame
pub record Evicts (before after : Placed) (value now bits : ℕ) (taken : Taken) : Type 0 where
  pub other : ℕ
  pub farthest : IsFarthest before now bits other taken.reg
  pub told : taken.evicted ≡ Some (other, other)
  pub change : after ≡ with_spot (with_spot before other (Frame other)) value (Register taken.reg)

-- the value comes into this register, and no other one moves
pub record TakesFree (before after : Placed) (value : ℕ) (taken : Taken) (reg : Reg) : Type 0 where
  pub told : taken ≡ record { reg = reg; evicted = None }
  pub change : after ≡ with_spot before value (Register reg)

-- the value comes into the first free register, and where there is none, another one leaves its register for it
abbrev pub IsTaken : Placed → Placed → ℕ → ℕ → ℕ → Taken → Type 0
IsTaken before after value now bits taken = MatchOption (first_free before.spots bits)
    (Evicts before after value now bits taken) (TakesFree before after value taken)

-- the spot is the slot of the frame that is the value's, or nowhere
abbrev pub is_outside : ℕ → Spot → Bool
is_outside value (Register r) = false
is_outside value (Frame slot) = slot == value
is_outside value Nowhere = true
