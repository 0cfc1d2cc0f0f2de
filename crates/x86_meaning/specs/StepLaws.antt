-- What the laws of steps say: on what a step depends, and what it leaves.
use Rattle.std.specs.Prelude.{◌≡◌, ◌≢◌, ℕ, Bool, true, not, ◌&&◌, ◌||◌, Option, Some, None}
use Rattle.std.specs.Prelude.{is_some, if◌then◌else◌, option_map}
use Rattle.std.specs.List.{AllByRecursion}
use Rattle.std.specs.Option.{option_map_or}
use Rattle.std.specs.FinMap as map
use Rattle.x86_instr.specs.declared.operand.Reg.{Reg}
use Rattle.x86_instr.specs.declared.flags.Flags.{Flags}
use Rattle.x86_instr.specs.declared.instr.Instr.{Instr}
use Rattle.x86_instr.specs.Flags.{flags_read, flags_written}
use Rattle.x86_meaning.specs.declared.state.State.{State}
use Rattle.x86_meaning.specs.Machine.{Cells, reg, step_of}
use Rattle.x86_meaning.specs.Runs.{Outcome, Ended, Stuck}
use Rattle.x86_meaning.specs.Touches.{Touched, NoCell, ReadCell, WrittenCell, touched, touched_address, written_address}
use Rattle.x86_meaning.specs.Touches.{registers_written}

-- ---- when a step is stuck

-- the touched cell is in the memory
abbrev pub is_there : Touched → State → Bool
is_there touch s = option_map_or (λ address. is_some (map.get s.cells address)) (touched_address touch) true

-- each of these flags is defined
abbrev pub are_defined : Flags → State → Bool
are_defined flags s =
    (not flags.cf || is_some s.cf) && ((not flags.of || is_some s.of) && (not flags.zf || is_some s.zf))

-- ---- what a step leaves

-- each of these flags is in both states the same
pub record SameFlags (flags : Flags) (s t : State) : Type 0 where
  pub cf : flags.cf ≡ true → s.cf ≡ t.cf
  pub of : flags.of ≡ true → s.of ≡ t.of
  pub zf : flags.zf ≡ true → s.zf ≡ t.zf

-- the flags that are none of these
abbrev pub others : Flags → Flags
others flags = record { cf = not flags.cf; of = not flags.of; zf = not flags.zf }

-- what a step from s to t leaves of s: cells, flags and registers that it does not write
pub record Leaves (i : Instr) (s t : State) : Type 0 where
  pub cells : (address : ℕ) → written_address (touched i s) ≢ Some address
      → map.get t.cells address ≡ map.get s.cells address
  pub flags : SameFlags (others (flags_written i)) s t
  pub registers : (r : Reg) → AllByRecursion (λ q. r ≢ q) (registers_written i) → reg t r ≡ reg s r

-- ---- on what a step depends

-- The cells that are touched so agree: a cell that is read holds the same in both memories, and one that is written
-- is in both or in none.
abbrev pub SameCell : Touched → Cells → Cells → Type 0
SameCell NoCell cells others = Unit {0}
SameCell (ReadCell address) cells others = map.get cells address ≡ map.get others address
SameCell (WrittenCell address) cells others = is_some (map.get cells address) ≡ is_some (map.get others address)

-- the two states agree on the registers, on the flags that the instruction reads, and on the cell that it touches
pub record SameReads (i : Instr) (s u : State) : Type 0 where
  pub regs : s.regs ≡ u.regs
  pub flags : SameFlags (flags_read i) s u
  pub cell : SameCell (touched i s) s.cells u.cells

-- the second cells, with what the first ones hold at the address, where there is one
abbrev pub with_cell : Option ℕ → Cells → Cells → Cells
with_cell None new old = old
with_cell (Some address) new old = option_map_or (λ word. map.insert old address word) (map.get new address) old

-- the state u with what a step to the state t writes: the registers, these flags, and the cell at the address
abbrev pub with_written : Flags → Option ℕ → State → State → State
with_written flags address u t = record {
  regs = t.regs;
  cf = if flags.cf then t.cf else u.cf;
  of = if flags.of then t.of else u.of;
  zf = if flags.zf then t.zf else u.zf;
  cells = with_cell address t.cells u.cells;
}

-- The step from u is stuck exactly where that from s is, and writes the same to u: registers, flags and cell.
abbrev pub StepsAlike : Instr → State → State → Type 0
StepsAlike i s u = step_of i u ≡ option_map
    (λ t. with_written (flags_written i) (written_address (touched i s)) u t) (step_of i s)

-- ---- runs

abbrev pub last_state : Outcome → State
last_state (Ended s) = s
last_state (Stuck number s) = s
