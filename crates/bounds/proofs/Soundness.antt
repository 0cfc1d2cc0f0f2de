-- No evaluation leaves the intervals: the operands, and then along the operations.
use Rattle.std.proofs.Common.{ℕ, zero, suc, ◌<◌, Bool, List, [], ◌∷◌, ◌++◌, length, map, get_or, arith}
use Rattle.std.specs.Prelude.{fold, slice_index, slice_index_or}
use Rattle.std.specs.List.{AllByRecursion}
use Rattle.base.proofs.Arithmetic.{not_below_zero}
use Rattle.word_program.specs.declared.parameter.Bounds.{Bounds}
use Rattle.word_program.specs.declared.parameter.Param.{Param}
use Rattle.word_program.specs.declared.operation.Op.{Op}
use Rattle.word_program.specs.declared.operation.Operand.{Operand}
use Rattle.word_program.specs.declared.operation.Operand.TheVariants as operands
use Rattle.word_program.specs.Program.{Source}
use Rattle.word_program.specs.Values.{input_word, input_bounds, word_bounds, AreWithin, operand_word}
use Rattle.word_program.specs.Values.{op_words, values_on, op_bits}
use Rattle.word_program.specs.Accepted.{AreBounds, IsParam, IsOperand, IsOp, AreOps, HasShift, IsAccepted}
use Rattle.word_program.proofs.InputWords.{IsInputWord, all_bounds, input_within}
use Rattle.bounds.specs.Intervals.{between, operand_interval, op_intervals, intervals_of}
use Rattle.bounds.specs.Soundness.{HoldValues}
use Rattle.bounds.proofs.TableLemmas.{LieAll, lies_in, lies_at, lie_append, row}
use Rattle.intervals.specs.declared.interval.Interval.{Interval}
use Rattle.intervals.specs.Intervals.{full}
use Rattle.intervals.specs.Soundness.{IsOrdered}
use Rattle.intervals.proofs.Lies.{Lies}

-- a word of an input parameter lies within its bounds
input_lies : (ps : List Param) (xs : List ℕ) → AreWithin xs (input_bounds ps) → AllByRecursion IsParam ps
    → (param word : ℕ) → IsInputWord ps param word
    → Lies (input_word ps xs param word) (between (word_bounds ps param word))
input_lies ps xs w t param word h = let q = input_within ps xs w t param word h in
    record { low = q.low; high = q.high; word = omega (arith, q.most) }

-- ---- along the operations

module _ (ps : List Param) (xs : List ℕ) (within : AreWithin xs (input_bounds ps))
    (params : AllByRecursion IsParam ps) where
  operand_lies : (vs : List ℕ) (is : List Interval) (n : ℕ) → LieAll vs is → (o : Operand) → IsOperand ps n o
      → Lies (operand_word ps xs vs o) (operand_interval ps is o)
  operand_lies vs is n t (operands.Literal word) h = record { low = omega arith; high = omega arith; word = h }
  operand_lies vs is n t (operands.Input param word) h = input_lies ps xs within params param word h
  operand_lies vs is n t (operands.Value number) h = lies_at vs is t number

  operands_lie : (vs : List ℕ) (is : List Interval) (n : ℕ) → LieAll vs is → (os : List Operand)
      → AllByRecursion (IsOperand ps n) os → LieAll (map (operand_word ps xs vs) os) (map (operand_interval ps is) os)
  operands_lie vs is n t [] h = tt
  operands_lie vs is n t (o ∷ os) h = (operand_lies vs is n t o h.0, operands_lie vs is n t os h.1)

  results_lie : (vs : List ℕ) (is : List Interval) (bits : List Bool) → LieAll vs is → (op : Op) → IsOp ps bits op
      → LieAll (op_words ps xs vs op) (op_intervals ps is op)
  unfolding op_intervals
  results_lie vs is bits t op h =
      let a = operands_lie vs is (length bits) t op.args h.reads in
      let words = map (operand_word ps xs vs) op.args in
      let ranges = map (operand_interval ps is) op.args in
      row op.kind h.count (slice_index words 0) (slice_index words 1) (slice_index words 2)
      (slice_index_or ranges 0 full) (slice_index_or ranges 1 full) (slice_index_or ranges 2 full)
      (lies_at words ranges a 0) (lies_at words ranges a 1) (lies_at words ranges a 2)

  values_lie : (ops : List Op) (bits : List Bool) (vs : List ℕ) (is : List Interval) → AreOps ps bits ops
      → LieAll vs is → LieAll (values_on ps xs vs ops) (fold (λ js op. js ++ op_intervals ps js op) is ops)
  values_lie [] bits vs is o t = t
  values_lie (op ∷ ops) bits vs is o t =
      values_lie ops (bits ++ op_bits ps bits op) (vs ++ op_words ps xs vs op) (is ++ op_intervals ps is op) o.1
      (lie_append vs (op_words ps xs vs op) is (op_intervals ps is op) t (results_lie vs is bits t op o.0))

-- the values of a program lie in its intervals
pub intervals_hold : (source : Source) → IsAccepted source → HoldValues source (intervals_of source)
intervals_hold source accepted = record {
  by = λ inputs within. lies_in _ _
      (values_lie source.params inputs within accepted.params source.ops [] [] [] accepted.ops tt);
}

-- ---- intervals have their low end first

-- the lowest inputs are within the bounds
lows_within : (bs : List Bounds) → AllByRecursion AreBounds bs → AreWithin (map (λ b. b.low) bs) bs
lows_within [] t = tt
lows_within (b ∷ bs) t = (omega arith, t.0.ordered, lows_within bs t.1)

are_ordered : (vs : List ℕ) (is : List Interval) → LieAll vs is → AllByRecursion IsOrdered is
are_ordered [] [] t = tt
are_ordered [] (i ∷ is) t = absurd t
are_ordered (v ∷ vs) [] t = absurd t
are_ordered (v ∷ vs) (i ∷ is) t = (omega (arith, t.0.low, t.0.high), are_ordered vs is t.1)

-- each interval of a program has a word
pub intervals_ordered : (source : Source) → IsAccepted source → AllByRecursion IsOrdered (intervals_of source)
intervals_ordered source accepted =
    let lows = map (λ b. b.low) (input_bounds source.params) in
    are_ordered _ _ (values_lie source.params lows
    (lows_within (input_bounds source.params) (all_bounds source.params accepted.params)) accepted.params
    source.ops [] [] [] accepted.ops tt)

-- ---- shift counts

-- the shift count of the operation at a place
pub count_at : (ps : List Param) (ops : List Op) (bits : List Bool) → AreOps ps bits ops → (n : ℕ) (d : Op)
    → n < length ops → HasShift (get_or ops n d).kind
count_at ps [] bits o n d h = absurd (not_below_zero n h)
count_at ps (op ∷ ops) bits o zero d h = o.0.count
count_at ps (op ∷ ops) bits o (suc n) d h = count_at ps ops (bits ++ op_bits ps bits op) o.1 n d (omega arith)
