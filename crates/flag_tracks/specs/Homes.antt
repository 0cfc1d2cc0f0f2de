-- Where the values of a program are kept. The flags that an instruction writes are those of the Intel Software
-- Developer's Manual, volume 2, under the instruction's name, "Flags Affected"; one that it leaves undefined is written
-- too.
use Rattle.std.specs.Prelude.{◌≡◌, ℕ, Bool, false, List, map, slice_index_or, slice_set, if◌then◌else◌}
use Rattle.x86_instr.specs.declared.instr.Instr.{Instr}
use Rattle.x86_instr.specs.declared.flags.Flags.{Flags}
use Rattle.x86_instr.specs.Flags.{no_flag, carry_only, overflow_only, flags_written}
use Rattle.flag_tracks.specs.declared.home.Home.{Home}
use Rattle.flag_tracks.specs.declared.home.Home.TheVariants.{Cf, Of, Register, Slot, Gone}

-- where a value is kept, by its number; nowhere, where there is no such value
abbrev pub home_at : List Home → ℕ → Home
home_at homes value = slice_index_or homes value Gone

-- the home is one of these flags
abbrev pub is_among : Flags → Home → Bool
is_among flags Cf = flags.cf
is_among flags Of = flags.of
is_among flags (Register r) = false
is_among flags (Slot n) = false
is_among flags Gone = false

-- the flag that a home is, where it is one
abbrev pub flag_of : Home → Flags
flag_of Cf = carry_only
flag_of Of = overflow_only
flag_of (Register r) = no_flag
flag_of (Slot n) = no_flag
flag_of Gone = no_flag

-- each value that was in one of these flags is nowhere, and every other one where it was
unfoldable pub emptied : Flags → List Home → List Home
emptied flags homes = map (λ home. if is_among flags home then Gone else home) homes

-- a value has this home, and each other value is where it was, or nowhere, where it was in the flag that the home is
unfoldable pub put_home : List Home → ℕ → Home → List Home
put_home homes value home = slice_set (emptied (flag_of home) homes) value home

-- after an instruction no value is in a flag that it writes
unfoldable pub killed : Instr → List Home → List Home
killed instr homes = emptied (flags_written instr) homes

-- at most one value is in each flag
pub record AreAlone (homes : List Home) : Type 0 where
  pub carry : (v w : ℕ) → home_at homes v ≡ Cf → home_at homes w ≡ Cf → v ≡ w
  pub overflow : (v w : ℕ) → home_at homes v ≡ Of → home_at homes w ≡ Of → v ≡ w
