-- That a run is stuck at a line of the listing.
use Rattle.std.proofs.Common.{◌≡◌, ℕ, suc, ◌+◌, ◌-◌, Bool, true, false, List, [], ◌∷◌, Option, Some, None, slice_get}
use Rattle.std.proofs.Common.{if◌then◌else◌, refl, sym, ◌∙◌, subst, arith}
use Rattle.std.specs.Option.{option_map_or}
use Rattle.x86_instr.specs.declared.line.Line.{Line}
use Rattle.x86_instr.specs.Listings.{is_ret, is_empty, ends_at_ret}
use Rattle.x86_meaning.specs.declared.state.State.{State}
use Rattle.x86_meaning.specs.Machine.{step_of}
use Rattle.x86_meaning.specs.Runs.{Ended, Stuck, run_from}
use Rattle.x86_meaning.specs.Laws.{IsStuckAt}

-- a line of these, of which the first has this number, is the one with the other number, and is stuck
record At (lines : List Line) (first number : ℕ) (t : State) : Type 0 where
  address : ℕ
  is : number ≡ first + address
  line : Line
  there : slice_get lines address ≡ Some line
  stuck : step_of line.instr t ≡ None

-- an ended run is not stuck
ended_not_stuck : (s t : State) (number : ℕ) → Ended s ≡ Stuck number t → ⊥
ended_not_stuck s t number e = cc

-- the number and the state of a stuck run
number_of_stuck : (m n : ℕ) (s t : State) → Stuck m s ≡ Stuck n t → m ≡ n
number_of_stuck m n s t e = cc

state_of_stuck : (m n : ℕ) (s t : State) → Stuck m s ≡ Stuck n t → s ≡ t
state_of_stuck m n s t e = cc

-- a line later
later : (line : Line) (lines : List Line) (first number : ℕ) (t : State) → At lines (first + 1) number t
    → At (line ∷ lines) first number t
later line lines first number t a = record {
  address = suc a.address;
  is = a.is ∙ omega arith;
  line = a.line;
  there = a.there;
  stuck = a.stuck;
}

-- behind a step
step_stuck : (line : Line) (lines : List Line) (first number : ℕ) (s t : State) (o : Option State)
    → step_of line.instr s ≡ o
    → ((u : State) → run_from (first + 1) lines u ≡ Stuck number t → At lines (first + 1) number t)
    → option_map_or (λ u. run_from (first + 1) lines u) o (Stuck first s) ≡ Stuck number t
    → At (line ∷ lines) first number t
step_stuck line lines first number s t None e rest h =
    record {
      address = 0;
      is = sym (number_of_stuck first number s t h) ∙ omega arith;
      line = line;
      there = refl;
      stuck = subst (λ u. step_of line.instr u ≡ None) (state_of_stuck first number s t h) e;
    }
step_stuck line lines first number s t (Some u) e rest h = later line lines first number t (rest u h)

-- at a line
line_stuck : (line : Line) (lines : List Line) (first number : ℕ) (s t : State) (b : Bool)
    → ((u : State) → ends_at_ret lines ≡ true → run_from (first + 1) lines u ≡ Stuck number t
    → At lines (first + 1) number t)
    → (if b then is_empty lines else ends_at_ret lines) ≡ true
    → (if b then Ended s else option_map_or (λ u. run_from (first + 1) lines u) (step_of line.instr s) (Stuck first s))
    ≡ Stuck number t
    → At (line ∷ lines) first number t
line_stuck line lines first number s t true rest ends h = absurd (ended_not_stuck s t number h)
line_stuck line lines first number s t false rest ends h =
    step_stuck line lines first number s t (step_of line.instr s) refl (λ u. rest u ends) h

-- of the whole run
run_stuck : (lines : List Line) (first number : ℕ) (s t : State) → ends_at_ret lines ≡ true
    → run_from first lines s ≡ Stuck number t → At lines first number t
run_stuck [] first number s t ends h = cc
run_stuck (line ∷ lines) first number s t ends h =
    line_stuck line lines first number s t (is_ret line.instr) (λ u. run_stuck lines (first + 1) number u t) ends h

-- the line at which a listing is stuck
pub stuck_line : (lines : List Line) (s : State) → ends_at_ret lines ≡ true → (number : ℕ) (t : State)
    → run_from 1 lines s ≡ Stuck number t → IsStuckAt lines number t
stuck_line lines s ends number t h =
    let a = run_stuck lines 1 number s t ends h in
    let address : a.address ≡ number - 1 = omega (arith, a.is) in
    (a.line, subst (λ i. slice_get lines i ≡ Some a.line) address a.there, a.stuck)
