-- That a program has an operation: it has an output, and each word of it is written.
use Rattle.std.proofs.Common.{◌≡◌, ℕ, ◌≤◌, false, List, [], ◌∷◌, length, arith}
use Rattle.std.proofs.lemmas.Bool.Decides.{nat_tests}
use Rattle.std.specs.Prelude.{◌==◌, count_by}
use Rattle.std.specs.List.{AllByRecursion}
use Rattle.word_program.specs.declared.parameter.Param.{Param}
use Rattle.word_program.specs.declared.operation.Op.{Op}
use Rattle.word_program.specs.Values.{is_at, targets_of}
use Rattle.word_program.specs.Accepted.{IsParam, IsOutputParam, IsOutputWord}

-- a number that is not 0
pub some_number : (n : ℕ) → (n == 0) ≡ false → 1 ≤ n
some_number n e = grind (arith, nat_tests)

-- the first word of an output is an output word
first_word : (params : List Param) → IsOutputParam params 0 → AllByRecursion IsParam params → IsOutputWord params 0 0
first_word [] output kept = output
first_word (p ∷ ps) output kept = (output, kept.0.some_words)

-- no operations write no word
some_by : (ops : List Op) → count_by (is_at 0 0) (targets_of ops) ≡ 1 → 1 ≤ length ops
some_by [] one = absurd (cc)
some_by (op ∷ ops) one = omega arith

-- where there is an output and each output word is written once, there is an operation
pub some_ops : (params : List Param) (ops : List Op) → IsOutputParam params 0 → AllByRecursion IsParam params
    → ((param word : ℕ) → IsOutputWord params param word → count_by (is_at param word) (targets_of ops) ≡ 1)
    → 1 ≤ length ops
some_ops params ops output kept written = some_by ops (written 0 0 (first_word params output kept))
