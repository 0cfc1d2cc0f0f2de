-- The table of intervals: between which words the results of an operation lie, by the intervals of its
-- operands. An interval has both of its ends.
use Rattle.std.specs.Prelude.{ℕ, ◌+◌, ◌-◌, ◌*◌, ◌/◌, ◌%◌, ◌^◌, ◌&&◌, ◌==◌, nat_lt, nat_le, min, max, List, [], ◌∷◌}
use Rattle.std.specs.Prelude.{◌++◌, map, fold, slice_index_or, if◌then◌else◌}
use Rattle.word_program.specs.declared.parameter.Bounds.{Bounds}
use Rattle.word_program.specs.declared.parameter.Param.{Param}
use Rattle.word_program.specs.declared.operation.Op.{Op}
use Rattle.word_operations.specs.declared.kind.Kind.{Kind}
use Rattle.word_operations.specs.declared.kind.Kind.TheVariants.{AddCarry, SubBorrow, MulX, CMov, Add, Sub, Mul, And}
use Rattle.word_operations.specs.declared.kind.Kind.TheVariants.{Or, Xor, Not, Copy, Shl, Shr, Shrd}
use Rattle.word_program.specs.declared.operation.Operand.{Operand}
use Rattle.word_program.specs.declared.operation.Operand.TheVariants as operands
use Rattle.word_program.specs.Program.{Source}
use Rattle.word_program.specs.Values.{word_bounds}
use Rattle.intervals.specs.declared.interval.Interval.{Interval}
use Rattle.intervals.specs.Intervals.{full, window, floors, fitting, product_low, product_high, bits_and, bits_or}
use Rattle.intervals.specs.Intervals.{bits_xor}
use Rattle.intervals.specs.Intervals.{shifted_right, choice}

-- ---- the table

-- The intervals of the results of an operation on these operands, in order. A difference is taken with
-- 2^64, or twice that, more: the window is the same.
abbrev pub intervals_on : Kind → Interval → Interval → Interval → List Interval
intervals_on AddCarry c a b =
    window (c.low + a.low + b.low) (c.high + a.high + b.high)
    ∷ floors (c.low + a.low + b.low) (c.high + a.high + b.high)
    ∷ []
intervals_on SubBorrow c a b =
    window (a.low + 2 * 2 ^ 64 - (b.high + c.high)) (a.high + 2 * 2 ^ 64 - (b.low + c.low))
    ∷ record {
      low = if nat_lt a.high (b.low + c.low) then 1 else 0;
      high = if nat_le (b.high + c.high) a.low then
          0 else 1;
    }
    ∷ []
intervals_on MulX a b z = product_low a b ∷ product_high a b ∷ []
intervals_on CMov c z nz = choice z nz ∷ []
intervals_on Add a b z = window (a.low + b.low) (a.high + b.high) ∷ []
intervals_on Sub a b z = window (a.low + 2 ^ 64 - b.high) (a.high + 2 ^ 64 - b.low) ∷ []
intervals_on Mul a b z = product_low a b ∷ []
intervals_on And a b z = bits_and a b ∷ []
intervals_on Or a b z = bits_or a b ∷ []
intervals_on Xor a b z = bits_xor a b ∷ []
intervals_on Not a y z = record { low = 2 ^ 64 - 1 - a.high; high = 2 ^ 64 - 1 - a.low } ∷ []
intervals_on Copy a y z = a ∷ []
intervals_on (Shl k) a y z = fitting (a.low * 2 ^ k) (a.high * 2 ^ k) ∷ []
intervals_on (Shr k) a y z = shifted_right a k ∷ []
intervals_on (Shrd k) lo hi z = full ∷ []

-- the intervals of the results of an operation of this kind
abbrev pub intervals_by : Kind → List Interval → List Interval
intervals_by kind is = intervals_on kind (slice_index_or is 0 full) (slice_index_or is 1 full)
    (slice_index_or is 2 full)

-- ---- programs

abbrev pub between : Bounds → Interval
between b = record { low = b.low; high = b.high }

-- a literal is itself, an input word lies in its bounds, and a value in its interval
abbrev pub operand_interval : List Param → List Interval → Operand → Interval
operand_interval params is (operands.Literal n) = record { low = n; high = n }
operand_interval params is (operands.Input param word) = between (word_bounds params param word)
operand_interval params is (operands.Value number) = slice_index_or is number full

-- the intervals of an operation's results, from those of the values so far
unfoldable pub op_intervals : List Param → List Interval → Op → List Interval
op_intervals params is op = intervals_by op.kind (map (operand_interval params is) op.args)

-- the intervals of all values, by their value numbers
abbrev pub intervals_of : Source → List Interval
intervals_of source = fold (λ is op. is ++ op_intervals source.params is op) [] source.ops
