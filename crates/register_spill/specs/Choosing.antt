-- How the code chooses a register; no part of a promise. It looks at the registers in the order of their numbers.
use Rattle.std.specs.Prelude.{ℕ, Bool, ◌&&◌, List, Option, Some, None, fold, is_none, if◌then◌else◌}
use Rattle.std.specs.List.{find}
use Rattle.std.specs.Option.{option_map}
use Rattle.x86_instr.specs.declared.operand.Reg.{Reg}
use Rattle.x86_instr.specs.Registers.{registers}
use Rattle.register_spill.specs.declared.choice.Candidate.{Candidate}
use Rattle.register_spill.specs.Uses.{uses_at, distance, is_past}
use Rattle.register_spill.specs.Calls.{is_open}
use Rattle.register_spill.specs.Inside.{holder_at}

-- the first register that is not pinned and has no value
unfoldable pub first_without : List (Option ℕ) → ℕ → Option Reg
first_without holders bits = find (λ r. is_open bits r && is_none (holder_at holders r)) registers

-- the value in a register, with the slot of its next use
abbrev pub candidate_in : List (List ℕ) → ℕ → Reg → ℕ → Candidate
candidate_in uses now r value = record { reg = r; value = value; next = distance (uses_at uses value) now }

-- the same, where the register is not pinned
abbrev pub candidate_of : List (Option ℕ) → List (List ℕ) → ℕ → ℕ → Reg → Option Candidate
candidate_of holders uses now bits r =
    if is_open bits r then option_map (candidate_in uses now r) (holder_at holders r) else None

abbrev pub is_beyond : Candidate → Candidate → Bool
is_beyond found best = is_past found.next found.value best.next best.value

-- the farther one of two
abbrev pub farther_of : Option Candidate → Option Candidate → Option Candidate
farther_of None best = best
farther_of (Some found) None = Some found
farther_of (Some found) (Some best) = if is_beyond found best then Some found else Some best

-- the farthest one of the values in these registers
unfoldable pub farthest_of : List (Option ℕ) → List (List ℕ) → ℕ → ℕ → List Reg → Option Candidate
farthest_of holders uses now bits rs = fold (λ best r. farther_of (candidate_of holders uses now bits r) best) None rs
