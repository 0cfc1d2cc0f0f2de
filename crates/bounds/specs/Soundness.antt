-- What the intervals are good for: no evaluation leaves them.
use Rattle.std.specs.Prelude.{ℕ, ◌≤◌, List, [], ◌∷◌}
use Rattle.word_program.specs.Program.{Source}
use Rattle.word_program.specs.Values.{input_bounds, AreWithin, values_of}
use Rattle.intervals.specs.declared.interval.Interval.{Interval}

-- each value lies in its interval, and there are as many of the ones as of the others
abbrev pub LieIn : List Interval → List ℕ → Type 0
LieIn [] [] = Unit {0}
LieIn [] (v ∷ vs) = ⊥
LieIn (i ∷ is) [] = ⊥
LieIn (i ∷ is) (v ∷ vs) = (i.low ≤ v) × (v ≤ i.high) × LieIn is vs

-- whatever the inputs are within their bounds, the values that the program computes lie in the intervals
pub record HoldValues (source : Source) (is : List Interval) : Type 0 where
  pub by : (inputs : List ℕ) → AreWithin inputs (input_bounds source.params) → LieIn is (values_of source inputs)
