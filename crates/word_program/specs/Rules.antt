-- What a program must be, as tables of rules. The rules are tried in this order: those of the program as a
-- whole, of each return, of each argument, of each operation, and last that every output word is written.
-- A later row of a table may read a default where an earlier row fails.
use Rattle.std.specs.Prelude.{ℕ, ◌+◌, ◌-◌, ◌^◌, Bool, true, false, not, ◌&&◌, ◌||◌, ◌==◌, nat_lt, nat_le, List, [], ◌∷◌}
use Rattle.std.specs.Prelude.{◌++◌, length, map, take, fold, codes, Option, Some, None, is_some, is_none, unwrap_or}
use Rattle.std.specs.Prelude.{option_map, option_and_then, slice_get, if◌then◌else◌}
use Rattle.std.specs.List.{position, position_from, list_all, list_any, range_with_len}
use Rattle.std.specs.Option.{option_or, option_map_or}
use Rattle.std.specs.Str.{bytes_eq}
use Rattle.base.specs.declared.limits.TheConstants.{MAX_PARAMS, MAX_OPERATIONS}
use Rattle.word_text.specs.declared.codes.TheConstants as code
use Rattle.word_text.specs.declared.fault.Section.{Section}
use Rattle.word_text.specs.declared.fault.Section.TheVariants.{Top, Returns, Arguments, Body}
use Rattle.word_text.specs.declared.parts.RawOp.{RawOp}
use Rattle.word_text.specs.declared.parts.RawParam.{RawParam}
use Rattle.word_text.specs.declared.parts.RawProgram.{RawProgram}
use Rattle.base.specs.Options.{◌>>=◌, guard}
use Rattle.base.specs.Identifiers.{is_identifier}
use Rattle.word_text.specs.Texts.{is_overlap, may_overlap, is_unused, is_word_form, starts_with_digit, word_parts}
use Rattle.base.specs.Numbers.{word}
use Rattle.word_text.specs.Numbers.{index_below, array_words}
use Rattle.word_program.specs.declared.parameter.Bounds.{Bounds}
use Rattle.word_program.specs.declared.parameter.Param.{Param}
use Rattle.word_program.specs.declared.parameter.Role.{Role}
use Rattle.word_program.specs.declared.parameter.Role.TheVariants.{Output, InputArray, InputScalar}
use Rattle.word_program.specs.declared.operation.Op.{Op}
use Rattle.word_operations.specs.declared.kind.Kind.{Kind}
use Rattle.word_operations.specs.declared.kind.Kind.TheVariants.{Copy}
use Rattle.word_program.specs.declared.operation.Operand.{Operand}
use Rattle.word_program.specs.declared.operation.Operand.TheVariants as operands
use Rattle.word_program.specs.declared.operation.Target.{Target}
use Rattle.word_program.specs.declared.operation.Target.TheVariants as targets
use Rattle.word_program.specs.declared.params.Datatype.{Datatype}
use Rattle.word_program.specs.declared.params.ParamWord.{ParamWord}
use Rattle.word_program.specs.Program.{Source, full}
use Rattle.word_operations.specs.Operations.{kind_named, operand_count, argument_count, result_count, needs_bit}
use Rattle.word_operations.specs.Operations.{needs_shift, with_shift}
use Rattle.word_program.specs.Values.{is_output, is_input_array, is_scalar, is_bit_by, op_bits, is_at}
use Rattle.word_program.specs.Walk.{Check, RuleFault, place_in, at, walk}

-- ---- the program as a whole

-- where a text says whether outputs may overlap inputs, it is `any` or `none`
abbrev pub is_overlap_if_there : Option (List ℕ) → Bool
is_overlap_if_there None = true
is_overlap_if_there (Some text) = is_overlap text

unfoldable pub top_rules : RawProgram → List Check
top_rules p =
    (code.SHAPE, not (is_overlap_if_there p.overlap))
    ∷ (code.NAME, not (is_identifier p.name))
    ∷ (code.PARAMETER_COUNT, nat_lt MAX_PARAMS (length p.returns + length p.arguments))
    ∷ (code.OPERATION_COUNT, nat_lt MAX_OPERATIONS (length p.body))
    ∷ (code.NO_RETURN, length p.returns == 0)
    ∷ []

-- ---- parameters

abbrev pub array_of : Role → List ℕ → Option Datatype
array_of role text = option_map (λ n. record { role = role; words = n; most = 2 ^ 64 - 1 }) (array_words text)

abbrev pub scalar_of : ℕ → Datatype
scalar_of most = record { role = InputScalar; words = 1; most = most }

-- `u64`, or `u1`
abbrev pub scalar_named : List ℕ → Option Datatype
scalar_named text =
    if bytes_eq text (codes "u64") then Some (scalar_of (2 ^ 64 - 1)) else
    (if bytes_eq text (codes "u1") then Some (scalar_of 1) else None)

-- `u64[n]` with n from 1 to 32 for a return; that, `u64` or `u1` for an argument
abbrev pub datatype_of : Section → List ℕ → Option Datatype
datatype_of Returns text = array_of Output text
datatype_of Arguments text = option_or (scalar_named text) (array_of InputArray text)
datatype_of Top text = None
datatype_of Body text = None

-- the limit of the word with this number, where its text is one; where no texts are given, it is this number
abbrev pub limit_at : ℕ → Option (List (List ℕ)) → ℕ → Option ℕ
limit_at missing None number = Some missing
limit_at missing (Some texts) number = option_and_then word (slice_get texts number)

-- the bounds of the word with this number: a missing low one is 0, a missing high one is the most; the low one
-- is not above the high one, which is not above the most
unfoldable pub bound_at : Datatype → RawParam → ℕ → Option Bounds
bound_at datatype param number = do
  low ← limit_at 0 param.low number
  high ← limit_at datatype.most param.high number
  guard (nat_le low high && nat_le high datatype.most) (record { low = low; high = high })

-- as many texts as words, where they are given
abbrev pub has_length : ℕ → Option (List (List ℕ)) → Bool
has_length words None = true
has_length words (Some texts) = length texts == words

-- the bounds of a parameter of this datatype
unfoldable pub bounds_of : Datatype → RawParam → Option (List Bounds)
bounds_of datatype param =
    guard
    (has_length datatype.words param.low &&
    (has_length datatype.words param.high && list_all (λ n. is_some (bound_at datatype param n))
    (range_with_len 0 datatype.words)))
    (map (λ n. unwrap_or (bound_at datatype param n) full) (range_with_len 0 datatype.words))

abbrev pub no_datatype : Datatype
no_datatype = record { role = Output; words = 0; most = 0 }

-- the bounds that a parameter has by its datatype
abbrev pub bounds_said : Section → RawParam → Option (List Bounds)
bounds_said section param = bounds_of (unwrap_or (datatype_of section param.datatype) no_datatype) param

-- the number of the parameter of this name
abbrev pub param_named : List Param → List ℕ → Option ℕ
param_named params name = position (λ p. bytes_eq p.name name) params

unfoldable pub parameter_rules : Section → List Param → RawParam → List Check
parameter_rules section params param =
    (code.NAME, not (is_identifier param.name))
    ∷ (code.DATATYPE, is_none (datatype_of section param.datatype))
    ∷ (code.BOUNDS, is_none (bounds_said section param))
    ∷ (code.REPEATED_NAME, is_some (param_named params param.name))
    ∷ []

unfoldable pub param_of : Section → RawParam → Param
param_of section param = record {
  name = param.name;
  role = (unwrap_or (datatype_of section param.datatype) no_datatype).role;
  bounds = unwrap_or (bounds_said section param) [];
}

abbrev pub with_param : Section → List Param → RawParam → List Param
with_param section params param = params ++ param_of section param ∷ []

abbrev pub parameter_fault : Section → List Param → ℕ → RawParam → Option RuleFault
parameter_fault section params n param = at (place_in section n 0) (parameter_rules section params param)

abbrev pub parameters_in : Section → List Param → List RawParam → List Param
parameters_in section params raws = fold (with_param section) params raws

-- the parameters, the returns before the arguments
abbrev pub params_of : RawProgram → List Param
params_of p = parameters_in Arguments (parameters_in Returns [] p.returns) p.arguments

abbrev pub params_fault : RawProgram → Option RuleFault
params_fault p =
    option_or
    (walk (parameter_fault Returns) (with_param Returns) [] 0 p.returns)
    (walk (parameter_fault Arguments) (with_param Arguments) (parameters_in Returns [] p.returns) 0 p.arguments)

-- ---- operands and targets

-- what stands before an operation or a result: the parameters; the texts, the targets and which are bits of
-- the results so far, by value numbers; and the operations so far
pub record Scope : Type 0 where
  pub params : List Param
  pub names : List (List ℕ)
  pub targets : List Target
  pub bits : List Bool
  pub ops : List Op

abbrev pub start : List Param → Scope
start params = record { params = params; names = []; targets = []; bits = []; ops = [] }

-- the value number of the result of this name
abbrev pub value_named : List (List ℕ) → List ℕ → Option ℕ
value_named names name = if is_identifier name then position_from (λ n. bytes_eq n name) 0 names else None

-- the word `name[index]` of a parameter, and the parameter's role
unfoldable pub word_at : List Param → List ℕ → Option ParamWord
word_at params text = do
  parts ← word_parts text
  param ← param_named params parts.0
  p ← slice_get params param
  number ← index_below parts.1 (length p.bounds)
  Some (record { role = p.role; param = param; word = number })

-- the scalar of this name
unfoldable pub scalar_at : List Param → List ℕ → Option Operand
scalar_at params name = do
  param ← param_named params name
  p ← slice_get params param
  guard (is_scalar p.role) (operands.Input param 0)

-- a scalar argument, or an earlier result
abbrev pub named_operand : Scope → List ℕ → Option Operand
named_operand s name = option_or (scalar_at s.params name) (option_map operands.Value (value_named s.names name))

-- a word of an input array
unfoldable pub array_operand : List Param → List ℕ → Option Operand
array_operand params text = do
  w ← word_at params text
  guard (is_input_array w.role) (operands.Input w.param w.word)

-- the operand that a text is
unfoldable pub operand_of : Scope → List ℕ → Option Operand
operand_of s text =
    if starts_with_digit text then option_map operands.Literal (word text)
    else (if is_identifier text then named_operand s text else array_operand s.params text)

abbrev pub operand_or : Option Operand → Operand
operand_or o = unwrap_or o (operands.Literal 0)

-- a shift count, a literal from 1 to 63
abbrev pub is_shift : Operand → Bool
is_shift (operands.Literal n) = nat_le 1 n && nat_le n 63
is_shift (operands.Input param word) = false
is_shift (operands.Value number) = false

-- the shift count that an operand is
abbrev pub shift_or : Option Operand → ℕ
shift_or None = 0
shift_or (Some (operands.Literal n)) = n
shift_or (Some (operands.Input param number)) = 0
shift_or (Some (operands.Value number)) = 0

-- the rules of the argument at a place of an operation of this kind
unfoldable pub argument_rules : Scope → Kind → ℕ → List ℕ → List Check
argument_rules s kind place text =
    (code.OPERAND, not (starts_with_digit text) && is_none (operand_of s text))
    ∷ (code.WORD, starts_with_digit text && is_none (operand_of s text))
    ∷ (code.SHIFT, needs_shift kind place && not (is_shift (operand_or (operand_of s text))))
    ∷ (code.BIT, needs_bit kind place && not (is_bit_by s.params s.bits (operand_or (operand_of s text))))
    ∷ []

-- an earlier result was this output word
abbrev pub is_written : List Target → ℕ → ℕ → Bool
is_written ts param number = list_any (is_at param number) ts

-- the output word that a text is
unfoldable pub output_at : List Param → List ℕ → Option ParamWord
output_at params text = do
  w ← word_at params text
  guard (is_output w.role) w

-- the rules of a result
unfoldable pub result_rules : Scope → List ℕ → List Check
result_rules s text =
    (code.NAME, not (is_identifier text || (is_unused text || is_word_form text)))
    ∷ (
      code.REPEATED_NAME,
      is_identifier text
          && (is_some (param_named s.params text) || is_some (value_named s.names text)),
    )
    ∷ (
      code.OUTPUT,
      is_word_form text && option_map_or (λ w. is_written s.targets w.param w.word)
          (output_at s.params text) true,
    )
    ∷ []

-- where a result of this text goes
unfoldable pub target_of : List Param → List ℕ → Target
target_of params text =
    if is_identifier text then targets.Value
    else (if is_unused text then targets.Unused
    else option_map_or (λ w. targets.Output w.param w.word) (output_at params text) targets.Unused)

-- ---- operations

abbrev pub kind_or : Option Kind → Kind
kind_or o = unwrap_or o Copy

-- as many arguments and results as the kind has
abbrev pub has_arity : Kind → RawOp → Bool
has_arity kind o = length o.arguments == argument_count kind && length o.results == result_count kind

unfoldable pub shape_rules : RawOp → List Check
shape_rules o =
    (code.OPERATION, is_none (kind_named o.operation))
    ∷ (code.ARITY, not (has_arity (kind_or (kind_named o.operation)) o))
    ∷ []

-- the faults of the argument and of the result with this number, of the operation with the number i
abbrev pub argument_fault : Scope → ℕ → Kind → Unit {0} → ℕ → List ℕ → Option RuleFault
argument_fault s i kind u n text = at (place_in Body i (1 + n)) (argument_rules s kind n text)

abbrev pub result_fault : ℕ → ℕ → Scope → ℕ → List ℕ → Option RuleFault
result_fault i arguments s n text = at (place_in Body i (1 + arguments + n)) (result_rules s text)

-- the scope after a result of an operation
abbrev pub with_result : Scope → List ℕ → Scope
with_result s text = record {
  params = s.params;
  names = s.names ++ text ∷ [];
  targets = s.targets ++ target_of s.params text ∷ [];
  bits = s.bits;
  ops = s.ops;
}

-- all rules of the first argument come before those of the second, and so on, and then those of the results
unfoldable pub operation_fault : Scope → ℕ → RawOp → Option RuleFault
operation_fault s i o =
    option_or (at (place_in Body i 0) (shape_rules o))
    (option_or (walk (argument_fault s i (kind_or (kind_named o.operation))) (λ u text. u) tt 0 o.arguments)
    (walk (result_fault i (length o.arguments)) with_result s 0 o.results))

-- an operation on these operands, of which the one after the last is a shift count
abbrev pub op_on : Kind → List Operand → List Target → Op
op_on kind arguments ts = record {
  kind = with_shift kind (shift_or (slice_get arguments (operand_count kind)));
  args = take (operand_count kind) arguments;
  targets = ts;
}

unfoldable pub op_of : Scope → RawOp → Op
op_of s o = op_on (kind_or (kind_named o.operation)) (map (λ text. operand_or (operand_of s text)) o.arguments)
    (map (target_of s.params) o.results)

-- the scope with an operation, of which the results are there
abbrev pub with_op : Scope → Op → Scope
with_op s op = record {
  params = s.params;
  names = s.names;
  targets = s.targets;
  bits = s.bits ++ op_bits s.params s.bits op;
  ops = s.ops ++ op ∷ [];
}

-- the scope after an operation
unfoldable pub with_operation : Scope → RawOp → Scope
with_operation s o = with_op (fold with_result s o.results) (op_of s o)

abbrev pub scope_after : List Param → List RawOp → Scope
scope_after params body = fold with_operation (start params) body

-- ---- output words

-- the output word is never written
abbrev pub missing_word : List Target → ℕ → Unit {0} → ℕ → Bounds → Option RuleFault
missing_word ts param u n b = at (place_in Returns param n) ((code.OUTPUT, not (is_written ts param n)) ∷ [])

-- the first word of an output parameter that is never written
abbrev pub missing_in : List Target → Unit {0} → ℕ → Param → Option RuleFault
missing_in ts u param p = if is_output p.role then walk (missing_word ts param) (λ u b. u) tt 0 p.bounds else None

unfoldable pub missing : List Param → List Target → Option RuleFault
missing params ts = walk (missing_in ts) (λ u p. u) tt 0 params

-- ---- the definition

-- the faults of the operations, and of what they leave unwritten
abbrev pub body_fault : List Param → List RawOp → Option RuleFault
body_fault params body =
    option_or (walk operation_fault with_operation (start params) 0 body)
    (missing params (scope_after params body).targets)

-- The first rule that the parts break. Where there is none, they are a program.
unfoldable pub first_fault : RawProgram → Option RuleFault
first_fault p = option_or (at (place_in Top 0 0) (top_rules p))
    (option_or (params_fault p) (body_fault (params_of p) p.body))

-- the program that the parts are, where they break no rule
unfoldable pub program_of : RawProgram → Source
program_of p = record {
  name = p.name;
  params = params_of p;
  ops = (scope_after (params_of p) p.body).ops;
  overlap = may_overlap p.overlap;
}
