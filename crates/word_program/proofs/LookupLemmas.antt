-- How many words the parameters have.
use Rattle.std.proofs.Common.{◌≡◌, ℕ, ◌≤◌, List, length}
use Rattle.std.specs.Prelude.{Some, slice_get}
use Rattle.std.specs.List.{AllByRecursion}
use Rattle.word_program.specs.declared.parameter.Param.{Param}
use Rattle.word_program.specs.Accepted.{IsParam}
use Rattle.word_program.proofs.OperandKept.{all_get}

-- a parameter has at most 32 words
pub few_words : (params : List Param) (n : ℕ) (p : Param) → AllByRecursion IsParam params → slice_get params n ≡ Some p
    → length p.bounds ≤ 32
few_words params n p all e = (all_get IsParam params n p all e).words
