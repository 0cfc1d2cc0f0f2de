-- On inputs within their bounds the values of a program are words, and those that are bits are 0 or 1.
use Rattle.std.proofs.Common.{◌≡◌, ℕ, zero, suc, ◌^◌, ◌<◌, ◌≤◌, Bool, true, false, List, [], ◌∷◌, ◌++◌, length, map}
use Rattle.std.proofs.Common.{arith}
use Rattle.std.proofs.lemmas.Bool.Decides.{nat_tests}
use Rattle.std.specs.Prelude.{fold, slice_index, slice_index_or}
use Rattle.std.specs.List.{AllByRecursion}
use Rattle.base.proofs.Arithmetic.{at_most_by_test}
use Rattle.word_operations.specs.Operations.{takes_bit}
use Rattle.word_operations.specs.Laws.{IsBitIf, AreBits, AreWords}
use Rattle.word_operations.proofs.ResultLemmas as results
use Rattle.word_program.specs.declared.parameter.Param.{Param}
use Rattle.word_program.specs.declared.operation.Op.{Op}
use Rattle.word_program.specs.declared.operation.Operand.{Operand}
use Rattle.word_program.specs.declared.operation.Operand.TheVariants as operands
use Rattle.word_program.specs.Program.{Source}
use Rattle.word_program.specs.Values.{input_bounds, AreWithin, operand_word, op_words, values_on, values_of, is_bit}
use Rattle.word_program.specs.Values.{is_bit_by, op_bits}
use Rattle.word_program.specs.Accepted.{IsParam, IsOperand, IsOp, AreOps, IsAccepted}
use Rattle.word_program.proofs.InputWords.{input_within}

-- ---- lists of words and of what is told of them

words_append : (xs ys : List ℕ) → AreWords xs → AreWords ys → AreWords (xs ++ ys)
words_append [] ys t u = u
words_append (x ∷ xs) ys t u = (t.0, words_append xs ys t.1 u)

words_at : (xs : List ℕ) → AreWords xs → (n : ℕ) → slice_index xs n < 2 ^ 64
words_at [] t n = omega arith
words_at (x ∷ xs) t zero = t.0
words_at (x ∷ xs) t (suc n) = words_at xs t.1 n

bits_append : (bs cs : List Bool) (xs ys : List ℕ) → AreBits bs xs → AreBits cs ys → AreBits (bs ++ cs) (xs ++ ys)
bits_append [] cs [] ys t u = u
bits_append [] cs (x ∷ xs) ys t u = absurd t
bits_append (b ∷ bs) cs [] ys t u = absurd t
bits_append (b ∷ bs) cs (x ∷ xs) ys t u = (t.0, bits_append bs cs xs ys t.1 u)

bits_at : (bs : List Bool) (xs : List ℕ) → AreBits bs xs → (n : ℕ)
    → IsBitIf (slice_index_or bs n false) (slice_index xs n)
bits_at [] [] t n e = absurd (cc)
bits_at [] (x ∷ xs) t n e = absurd t
bits_at (b ∷ bs) [] t n e = absurd t
bits_at (b ∷ bs) (x ∷ xs) t zero e = t.0 e
bits_at (b ∷ bs) (x ∷ xs) t (suc n) e = bits_at bs xs t.1 n e

-- ---- along the operations

module _ (ps : List Param) (xs : List ℕ) (within : AreWithin xs (input_bounds ps))
    (params : AllByRecursion IsParam ps) where
  word_of : (vs : List ℕ) (n : ℕ) → AreWords vs → (o : Operand) → IsOperand ps n o → operand_word ps xs vs o < 2 ^ 64
  word_of vs n t (operands.Literal word) h = h
  word_of vs n t (operands.Input param word) h = let w = input_within ps xs within params param word h in
      omega (arith, w.high, w.most)
  word_of vs n t (operands.Value number) h = words_at vs t number

  bit_of : (bs : List Bool) (vs : List ℕ) (n : ℕ) → AreBits bs vs → (o : Operand) → IsOperand ps n o
      → IsBitIf (is_bit_by ps bs o) (operand_word ps xs vs o)
  bit_of bs vs n t (operands.Literal word) h e = at_most_by_test word 1 e
  bit_of bs vs n t (operands.Input param word) h e =
      let w = input_within ps xs within params param word h in
      let most = at_most_by_test _ 1 e in
      omega (arith, w.high, most)
  bit_of bs vs n t (operands.Value number) h e = bits_at bs vs t number e

  words_of : (vs : List ℕ) (n : ℕ) → AreWords vs → (os : List Operand) → AllByRecursion (IsOperand ps n) os
      → AreWords (map (operand_word ps xs vs) os)
  words_of vs n t [] h = tt
  words_of vs n t (o ∷ os) h = (word_of vs n t o h.0, words_of vs n t os h.1)

  bits_of_all : (bs : List Bool) (vs : List ℕ) (n : ℕ) → AreBits bs vs → (os : List Operand)
      → AllByRecursion (IsOperand ps n) os → AreBits (map (is_bit_by ps bs) os) (map (operand_word ps xs vs) os)
  bits_of_all bs vs n t [] h = tt
  bits_of_all bs vs n t (o ∷ os) h = (bit_of bs vs n t o h.0, bits_of_all bs vs n t os h.1)

  -- the first operand is a bit where it has to be
  first_taken : (bs : List Bool) (vs : List ℕ) (n : ℕ) → AreBits bs vs → (os : List Operand) (b : Bool)
      → AllByRecursion (IsOperand ps n) os
      → (b ≡ true → is_bit_by ps bs (slice_index_or os 0 (operands.Literal 0)) ≡ true)
      → IsBitIf b (slice_index (map (operand_word ps xs vs) os) 0)
  first_taken bs vs n t [] b h f e = omega arith
  first_taken bs vs n t (o ∷ os) b h f e = bit_of bs vs n t o h.0 (f e)

  -- the results of an operation are words, and bits where they are told to be
  op_results : (bs : List Bool) (vs : List ℕ) → AreWords vs → AreBits bs vs → (op : Op) → IsOp ps bs op
      → AreWords (op_words ps xs vs op) × AreBits (op_bits ps bs op) (op_words ps xs vs op)
  op_results bs vs w t op h =
      let words = map (operand_word ps xs vs) op.args in
      let told = map (is_bit_by ps bs) op.args in
      let all = words_of vs (length bs) w op.args h.reads in
      let bits = bits_of_all bs vs (length bs) t op.args h.reads in
      let three : AreWords (slice_index words 0 ∷ slice_index words 1 ∷ slice_index words 2 ∷ []) =
      (words_at words all 0, (words_at words all 1, (words_at words all 2, tt))) in (
        results.words op.kind _ _ _ three,
        results.bits op.kind _ _ _ _ _ _ record {
          words = three;
          first = bits_at told words bits 0;
          second = bits_at told words bits 1;
          third = bits_at told words bits 2;
          taken = first_taken bs vs (length bs) t op.args (takes_bit op.kind) h.reads h.bit;
        },
      )

  values_results : (ops : List Op) (bs : List Bool) (vs : List ℕ) → AreOps ps bs ops → AreWords vs → AreBits bs vs
      → AreWords (values_on ps xs vs ops) × AreBits (fold (λ cs op. cs ++ op_bits ps cs op) bs ops)
      (values_on ps xs vs ops)
  values_results [] bs vs h w t = (w, t)
  values_results (op ∷ ops) bs vs h w t =
      let r = op_results bs vs w t op h.0 in
      values_results ops (bs ++ op_bits ps bs op) (vs ++ op_words ps xs vs op) h.1
      (words_append vs (op_words ps xs vs op) w r.0)
      (bits_append bs (op_bits ps bs op) vs (op_words ps xs vs op) t r.1)

pub values_are_words : (source : Source) (inputs : List ℕ) → IsAccepted source
    → AreWithin inputs (input_bounds source.params) → AreWords (values_of source inputs)
values_are_words source inputs accepted within =
    (values_results source.params inputs within accepted.params source.ops [] [] accepted.ops tt tt).0

pub bits_hold : (source : Source) (inputs : List ℕ) → IsAccepted source
    → AreWithin inputs (input_bounds source.params) → (n : ℕ) (operand : Operand) → IsOperand source.params n operand
    → is_bit source operand ≡ true → operand_word source.params inputs (values_of source inputs) operand ≤ 1
bits_hold source inputs accepted within n operand is bit =
    let r = values_results source.params inputs within accepted.params source.ops [] [] accepted.ops tt tt in
    bit_of source.params inputs within accepted.params _ _ n r.1 operand is bit
