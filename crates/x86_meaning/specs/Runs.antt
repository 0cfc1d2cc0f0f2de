-- The run of a listing.
use Rattle.std.specs.Prelude.{◌≡◌, ℕ, ◌+◌, List, [], ◌∷◌, ◌++◌, is_some, MatchOption, if◌then◌else◌}
use Rattle.std.specs.List.{AllByRecursion}
use Rattle.std.specs.FinMap as map
use Rattle.std.specs.Option.{option_map_or}
use Rattle.std.specs.Bool.{MatchBool}
use Rattle.x86_instr.specs.declared.line.Line.{Line}
use Rattle.x86_instr.specs.Listings.{is_ret}
use Rattle.x86_meaning.specs.declared.state.State.{State}
use Rattle.x86_meaning.specs.Machine.{step_of}

-- the two states have cells at the same addresses
abbrev pub SameAddresses : State → State → Type 0
SameAddresses s t = (address : ℕ) → is_some (map.get t.cells address) ≡ is_some (map.get s.cells address)

-- The run steps from line to line, and ends at `ret`. `Runs P Q lines s` says that the run of the lines
-- from the state s is never stuck and ends at `ret`, that P holds in each of its states before the last
-- one, and Q in the last one.
abbrev pub Runs : (State → Type 0) → (State → Type 0) → List Line → State → Type 0
Runs P Q [] s = ⊥
Runs P Q (line ∷ lines) s = MatchBool (is_ret line.instr) (Q s)
    (P s × MatchOption (step_of line.instr s) ⊥ (λ t. Runs P Q lines t))

-- how a run ends: in a state at `ret`, or stuck at a line, counted from 1, in the state before it
pub data Outcome : Type 0 where
  Ended : State → Outcome
  Stuck : ℕ → State → Outcome

-- the end of the run of lines of which the first has this number; behind the last line nothing can run
abbrev pub run_from : ℕ → List Line → State → Outcome
run_from number [] s = Stuck number s
run_from number (line ∷ lines) s =
    if is_ret line.instr then Ended s else option_map_or (λ t. run_from (number + 1) lines t) (step_of line.instr s)
    (Stuck number s)

-- the state in which a run ends or is stuck
abbrev pub state_left : Outcome → State
state_left (Ended s) = s
state_left (Stuck number s) = s

-- the states of the run of the lines from the state s, in order: s, and the state after each step
abbrev pub states_of : List Line → State → List State
states_of [] s = s ∷ []
states_of (line ∷ lines) s =
    s ∷ (if is_ret line.instr then [] else option_map_or (λ t. states_of lines t) (step_of line.instr s) [])

-- the run, whose first line has this number, ends; P holds in each of its states before the last one, and Q in
-- the last one
pub record EndsKeeping (P Q : State → Type 0) (number : ℕ) (lines : List Line) (s : State) : Type 0 where
  pub before : List State
  pub last : State
  pub ends : run_from number lines s ≡ Ended last
  pub states : states_of lines s ≡ before ++ last ∷ []
  pub all_before : AllByRecursion P before
  pub at_last : Q last
