-- What the laws of this crate say.
use Rattle.std.specs.Prelude.{◌≡◌, ℕ, ◌-◌, false, List, [], ◌∷◌, ◌++◌, Some, None, slice_get, ℤ, pos, ◌+ℤ◌, ◌-ℤ◌}
use Rattle.std.specs.Int.{cast_signed, w64}
use Rattle.word_program.specs.Program.{Source}
use Rattle.x86_instr.specs.declared.line.Line.{Line}
use Rattle.x86_meaning.specs.declared.state.State.{State}
use Rattle.x86_meaning.specs.Machine.{step_of}
use Rattle.x86_instr.specs.Listings.{is_ret}
use Rattle.x86_meaning.specs.Runs.{EndsKeeping, states_of}
use Rattle.x86_instr.specs.Frame.{frame_of}
use Rattle.x86_meaning.specs.Correct.{Keeps, Returns}

-- the run from the start state s, as it is computed, ends with what the program asks for, and keeps the memory in
-- each of its states
abbrev pub EndsReturning : Source → List Line → List ℕ → State → Type 0
EndsReturning program lines inputs s = EndsKeeping (λ t. Keeps program.params (frame_of lines) s t.cells)
    (λ t. Returns program (frame_of lines) inputs s t) 1 lines s

-- the exact sum, with signs, of two words and a carry
abbrev pub signed_sum : ℕ → ℕ → ℕ → ℤ
signed_sum d b carry = cast_signed w64 d +ℤ cast_signed w64 b +ℤ pos carry

-- the exact difference, with signs, of two words and a borrow
abbrev pub signed_difference : ℕ → ℕ → ℕ → ℤ
signed_difference d b borrow = cast_signed w64 d -ℤ cast_signed w64 b -ℤ pos borrow

-- the list ends with this state
abbrev pub LastState : List State → State → Type 0
LastState states t = (before : List State) × (states ≡ before ++ t ∷ [])

-- the state behind that with this number, counted from 0, is the one to which it leads by its line, which is not
-- `ret`
pub record FollowsStep (lines : List Line) (s : State) (n : ℕ) (t : State) : Type 0 where
  pub line : Line
  pub before : State
  pub there : slice_get lines n ≡ Some line
  pub goes : is_ret line.instr ≡ false
  pub stood : slice_get (states_of lines s) n ≡ Some before
  pub steps : step_of line.instr before ≡ Some t

-- the number is that of a line, counted from 1, which is stuck in the state
abbrev pub IsStuckAt : List Line → ℕ → State → Type 0
IsStuckAt lines number s = (line : Line) × (slice_get lines (number - 1) ≡ Some line) × (step_of line.instr s ≡ None)
