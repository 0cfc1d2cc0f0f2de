-- Why an evaluation gives no outputs.
use Rattle.std.specs.Prelude.{◌≡◌, ◌≢◌, ℕ, ◌+◌, Bool, ◌&&◌, nat_le, List, [], ◌∷◌, length, Option, Some, None}
use Rattle.std.specs.Prelude.{if◌then◌else◌}
use Rattle.word_program.specs.declared.parameter.Bounds.{Bounds}
use Rattle.word_program.specs.declared.evaluation.EvalFault.{EvalFault}
use Rattle.word_program.specs.declared.evaluation.EvalFault.TheVariants.{Count, OutOfBounds, Memory}
use Rattle.word_program.specs.Program.{Source}
use Rattle.word_program.specs.Values.{input_bounds}

abbrev pub is_within : Bounds → ℕ → Bool
is_within b x = nat_le b.low x && nat_le x b.high

-- the number of the first word outside its bounds, where the first one has this number
abbrev pub outside : ℕ → List ℕ → List Bounds → Option ℕ
outside n [] bs = None
outside n (x ∷ xs) [] = None
outside n (x ∷ xs) (b ∷ bs) = if is_within b x then outside (n + 1) xs bs else Some n

-- Why there are no outputs: another number of words than the program's inputs, or else a word outside its
-- bounds, the first one, or no memory.
abbrev pub Refuses : Source → List ℕ → EvalFault → Type 0
Refuses source inputs (Count given wanted) = (given ≡ length inputs) × (wanted ≡ length (input_bounds source.params))
    × (given ≢ wanted)
Refuses source inputs (OutOfBounds word) = (length inputs ≡ length (input_bounds source.params))
    × (outside 0 inputs (input_bounds source.params) ≡ Some word)
Refuses source inputs Memory = Unit {0}
