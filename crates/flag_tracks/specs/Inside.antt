-- What is kept beside the homes, so that no call walks over them: for each flag the value that is in it.
use Rattle.std.specs.Prelude.{◌≡◌, ℕ, Bool, true, false, List, Option, Some}
use Rattle.x86_instr.specs.declared.flags.Flags.{Flags}
use Rattle.x86_instr.specs.Flags.{carry_only, overflow_only}
use Rattle.flag_tracks.specs.declared.home.Home.{Home}
use Rattle.flag_tracks.specs.Homes.{home_at, is_among}

-- the carry flag or none, and the overflow flag or none
abbrev pub carry_if : Bool → Flags
carry_if asked = record { cf = asked; of = false; zf = false }

abbrev pub overflow_if : Bool → Flags
overflow_if asked = record { cf = false; of = asked; zf = false }

-- the value is the one that is in these flags
pub record IsHolder (flags : Flags) (homes : List Home) (holder : Option ℕ) : Type 0 where
  pub is : (value : ℕ) → is_among flags (home_at homes value) ≡ true → holder ≡ Some value
  pub has : (value : ℕ) → holder ≡ Some value → is_among flags (home_at homes value) ≡ true

pub record IsInside (homes : List Home) (carry overflow : Option ℕ) : Type 0 where
  pub carry_is : IsHolder carry_only homes carry
  pub overflow_is : IsHolder overflow_only homes overflow
