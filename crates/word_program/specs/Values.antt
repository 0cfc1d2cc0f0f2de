-- What a program computes: the list of its values in program order, by the equations of its operations,
-- and which of the values are bits. The input words stand in one list, in the order of the parameters.
use Rattle.std.specs.Prelude.{ℕ, ◌+◌, ◌≤◌, Bool, true, false, ◌&&◌, ◌==◌, nat_le, List, [], ◌∷◌, ◌++◌, length, map}
use Rattle.std.specs.Prelude.{take, fold, sum_by, position, slice_get, slice_index, slice_index_or, if◌then◌else◌}
use Rattle.std.specs.List.{flat_map, range_with_len}
use Rattle.std.specs.Option.{option_map_or}
use Rattle.word_program.specs.declared.parameter.Bounds.{Bounds}
use Rattle.word_program.specs.declared.parameter.Param.{Param}
use Rattle.word_program.specs.declared.parameter.Role.{Role}
use Rattle.word_program.specs.declared.parameter.Role.TheVariants.{Output, InputArray, InputScalar}
use Rattle.word_program.specs.declared.operation.Op.{Op}
use Rattle.word_program.specs.declared.operation.Operand.{Operand}
use Rattle.word_program.specs.declared.operation.Operand.TheVariants as operands
use Rattle.word_program.specs.declared.operation.Target.{Target}
use Rattle.word_program.specs.declared.operation.Target.TheVariants as targets
use Rattle.word_program.specs.Program.{Source, full}
use Rattle.word_operations.specs.Operations.{results_of, result_bits}

abbrev pub is_output : Role → Bool
is_output Output = true
is_output InputArray = false
is_output InputScalar = false

abbrev pub is_input_array : Role → Bool
is_input_array Output = false
is_input_array InputArray = true
is_input_array InputScalar = false

abbrev pub is_scalar : Role → Bool
is_scalar Output = false
is_scalar InputArray = false
is_scalar InputScalar = true

-- how many words of a parameter are inputs
abbrev pub input_words : Param → ℕ
input_words param = if is_output param.role then 0 else length param.bounds

-- how many words of parameters are outputs
abbrev pub output_count : List Param → ℕ
output_count [] = 0
output_count (p ∷ ps) = (if is_output p.role then length p.bounds else 0) + output_count ps

-- a word of an input parameter, by the parameter's number
abbrev pub input_word : List Param → List ℕ → ℕ → ℕ → ℕ
input_word params inputs param word = slice_index inputs (sum_by input_words (take param params) + word)

-- the bounds of the input words in order
abbrev pub input_bounds : List Param → List Bounds
input_bounds params = flat_map (λ param. if is_output param.role then [] else param.bounds) params

-- each word lies within its bounds, and there are as many words as bounds
abbrev pub AreWithin : List ℕ → List Bounds → Type 0
AreWithin [] [] = Unit {0}
AreWithin [] (b ∷ bs) = ⊥
AreWithin (x ∷ xs) [] = ⊥
AreWithin (x ∷ xs) (b ∷ bs) = (b.low ≤ x) × (x ≤ b.high) × AreWithin xs bs

-- the word that an operand stands for, from the values so far
abbrev pub operand_word : List Param → List ℕ → List ℕ → Operand → ℕ
operand_word params inputs values (operands.Literal n) = n
operand_word params inputs values (operands.Input param word) = input_word params inputs param word
operand_word params inputs values (operands.Value number) = slice_index values number

-- the results of an operation, from the values so far
abbrev pub op_words : List Param → List ℕ → List ℕ → Op → List ℕ
op_words params inputs values op = results_of op.kind (map (operand_word params inputs values) op.args)

-- the values with those of operations behind them
abbrev pub values_on : List Param → List ℕ → List ℕ → List Op → List ℕ
values_on params inputs values ops = fold (λ so_far op. so_far ++ op_words params inputs so_far op) values ops

-- the values in order, by their value numbers
abbrev pub values_of : Source → List ℕ → List ℕ
values_of source inputs = values_on source.params inputs [] source.ops

-- the target of each value, by its value number
abbrev pub targets_of : List Op → List Target
targets_of ops = flat_map (λ op. op.targets) ops

-- the target is this output word
abbrev pub is_at : ℕ → ℕ → Target → Bool
is_at param word targets.Value = false
is_at param word targets.Unused = false
is_at param word (targets.Output q x) = q == param && x == word

-- the word among the values that goes to this output word
abbrev pub stored_word : List Target → List ℕ → ℕ → ℕ → ℕ
stored_word ts values param word = option_map_or (slice_index values) (position (is_at param word) ts) 0

-- a word of an output parameter, by the parameter's number
abbrev pub output_word : Source → List ℕ → ℕ → ℕ → ℕ
output_word source inputs param word = stored_word (targets_of source.ops) (values_of source inputs) param word

-- the bounds of a word of a parameter; every word where there is no such word
abbrev pub word_bounds : List Param → ℕ → ℕ → Bounds
word_bounds params param word = option_map_or (λ p. slice_index_or p.bounds word full) (slice_get params param) full

-- The operand is a bit: the literal 0 or 1, an input word of at most 1, or a value that is one of the bits
-- so far.
abbrev pub is_bit_by : List Param → List Bool → Operand → Bool
is_bit_by params bits (operands.Literal n) = nat_le n 1
is_bit_by params bits (operands.Input param word) = nat_le (word_bounds params param word).high 1
is_bit_by params bits (operands.Value number) = slice_index_or bits number false

-- whether the results of an operation are bits, where those of the earlier ones are
abbrev pub op_bits : List Param → List Bool → Op → List Bool
op_bits params bits op = result_bits op.kind (map (is_bit_by params bits) op.args)

-- which values are bits, by their value numbers
abbrev pub bits_of : List Param → List Op → List Bool
bits_of params ops = fold (λ bits op. bits ++ op_bits params bits op) [] ops

-- the operand of this program is a bit
abbrev pub is_bit : Source → Operand → Bool
is_bit source operand = is_bit_by source.params (bits_of source.params source.ops) operand

-- the output words of parameters of which the first has this number
abbrev pub outputs_from : List Target → List ℕ → ℕ → List Param → List ℕ
outputs_from ts values param [] = []
outputs_from ts values param (p ∷ ps) =
    (if is_output p.role then map (stored_word ts values param) (range_with_len 0 (length p.bounds)) else [])
    ++ outputs_from ts values (param + 1) ps

-- the output words, in the order of the parameters
abbrev pub outputs : Source → List ℕ → List ℕ
outputs source inputs = outputs_from (targets_of source.ops) (values_of source inputs) 0 source.params
