-- What every program keeps.
use Rattle.std.specs.Prelude.{count_by, ◌≡◌, ℕ, ◌-◌, ◌^◌, ◌<◌, ◌≤◌, Bool, true, List, [], ◌∷◌, ◌++◌, length, map, None}
use Rattle.std.specs.Prelude.{slice_get, slice_index_or, IsTrue, IsFalse, IsSomeAnd}
use Rattle.std.specs.List.{AllByRecursion, IsDistinct}
use Rattle.std.specs.Str.{bytes_eq}
use Rattle.base.specs.declared.limits.TheConstants.{MAX_PARAMS, MAX_ARRAY_WORDS, MAX_OPERATIONS}
use Rattle.base.specs.Identifiers.{is_identifier}
use Rattle.word_program.specs.declared.limits.TheConstants.{MAX_VALUES}
use Rattle.word_program.specs.declared.parameter.Bounds.{Bounds}
use Rattle.word_program.specs.declared.parameter.Param.{Param}
use Rattle.word_program.specs.declared.operation.Op.{Op}
use Rattle.word_operations.specs.declared.kind.Kind.{Kind}
use Rattle.word_operations.specs.declared.kind.Kind.TheVariants.{AddCarry, SubBorrow, MulX, CMov, Add, Sub, Mul, And}
use Rattle.word_operations.specs.declared.kind.Kind.TheVariants.{Or, Xor, Not, Copy, Shl, Shr, Shrd}
use Rattle.word_program.specs.declared.operation.Operand.{Operand}
use Rattle.word_program.specs.declared.operation.Operand.TheVariants as operands
use Rattle.word_program.specs.declared.operation.Target.{Target}
use Rattle.word_program.specs.declared.operation.Target.TheVariants as targets
use Rattle.word_text.specs.declared.parts.RawProgram.{RawProgram}
use Rattle.word_program.specs.Program.{Source}
use Rattle.word_program.specs.Rules.{first_fault, program_of}
use Rattle.word_operations.specs.Operations.{operand_count, result_count, takes_bit}
use Rattle.word_program.specs.Values.{is_output, is_scalar, is_bit_by, op_bits, is_at, targets_of, bits_of}

-- ---- parameters

pub record AreBounds (b : Bounds) : Type 0 where
  pub ordered : b.low ≤ b.high
  pub word : b.high ≤ 2 ^ 64 - 1

-- a name, one word or more, of which a scalar has one, and the bounds of each
pub record IsParam (p : Param) : Type 0 where
  pub name : IsTrue (is_identifier p.name)
  pub some_words : 1 ≤ length p.bounds
  pub words : length p.bounds ≤ MAX_ARRAY_WORDS
  pub scalar : is_scalar p.role ≡ true → length p.bounds ≡ 1
  pub bounds : AllByRecursion AreBounds p.bounds

-- ---- operations

-- a word, a word of an input parameter, or one of the values so far
abbrev pub IsOperand : List Param → ℕ → Operand → Type 0
IsOperand params values (operands.Literal n) = n < 2 ^ 64
IsOperand params values (operands.Input param word) =
    IsSomeAnd (slice_get params param) (λ p. IsFalse (is_output p.role) × (word < length p.bounds))
IsOperand params values (operands.Value number) = number < values

-- an output word is a word of an output parameter
abbrev pub IsTarget : List Param → Target → Type 0
IsTarget params targets.Value = Unit {0}
IsTarget params targets.Unused = Unit {0}
IsTarget params (targets.Output param word) =
    IsSomeAnd (slice_get params param) (λ p. IsTrue (is_output p.role) × (word < length p.bounds))

-- a shift count is from 1 to 63
abbrev pub HasShift : Kind → Type 0
HasShift AddCarry = Unit {0}
HasShift SubBorrow = Unit {0}
HasShift MulX = Unit {0}
HasShift CMov = Unit {0}
HasShift Add = Unit {0}
HasShift Sub = Unit {0}
HasShift Mul = Unit {0}
HasShift And = Unit {0}
HasShift Or = Unit {0}
HasShift Xor = Unit {0}
HasShift Not = Unit {0}
HasShift Copy = Unit {0}
HasShift (Shl count) = (1 ≤ count) × (count ≤ 63)
HasShift (Shr count) = (1 ≤ count) × (count ≤ 63)
HasShift (Shrd count) = (1 ≤ count) × (count ≤ 63)

-- An operation, where these of the values so far are bits: as many operands and targets as its kind has,
-- all of them there, and a bit where its kind takes one.
pub record IsOp (params : List Param) (bits : List Bool) (op : Op) : Type 0 where
  pub arguments : length op.args ≡ operand_count op.kind
  pub results : length op.targets ≡ result_count op.kind
  pub count : HasShift op.kind
  pub reads : AllByRecursion (IsOperand params (length bits)) op.args
  pub writes : AllByRecursion (IsTarget params) op.targets
  pub bit : takes_bit op.kind ≡ true → IsTrue (is_bit_by params bits (slice_index_or op.args 0 (operands.Literal 0)))

-- each operation, behind those that gave the values of which these are bits
abbrev pub AreOps : List Param → List Bool → List Op → Type 0
AreOps params bits [] = Unit {0}
AreOps params bits (op ∷ ops) = IsOp params bits op × AreOps params (bits ++ op_bits params bits op) ops

-- ---- programs

-- a word of an output parameter
abbrev pub IsOutputWord : List Param → ℕ → ℕ → Type 0
IsOutputWord params param word = IsTarget params (targets.Output param word)

-- the parameter with this number is there, and an output
abbrev pub IsOutputParam : List Param → ℕ → Type 0
IsOutputParam params number = IsSomeAnd (slice_get params number) (λ p. IsTrue (is_output p.role))

-- behind an input stand inputs alone
abbrev pub AreOutputsFirst : List Param → Type 0
AreOutputsFirst [] = Unit {0}
AreOutputsFirst (p ∷ ps) =
    (IsFalse (is_output p.role) → AllByRecursion (λ q. IsFalse (is_output q.role)) ps) × AreOutputsFirst ps

pub record IsAccepted (source : Source) : Type 0 where
  pub name : IsTrue (is_identifier source.name)
  pub params_limit : length source.params ≤ MAX_PARAMS
  pub params : AllByRecursion IsParam source.params
  -- no two parameters have the same name
  pub names : IsDistinct bytes_eq (map (λ p. p.name) source.params)
  -- the first parameter is an output, and outputs stand before inputs
  pub some_output : IsOutputParam source.params 0
  pub outputs_first : AreOutputsFirst source.params
  pub some_ops : 1 ≤ length source.ops
  pub ops_limit : length source.ops ≤ MAX_OPERATIONS
  pub values_limit : length (targets_of source.ops) ≤ MAX_VALUES
  pub ops : AreOps source.params [] source.ops
  -- each output word is written once
  pub written : (param word : ℕ) → IsOutputWord source.params param word
      → count_by (is_at param word) (targets_of source.ops) ≡ 1

-- some parts that break no rule are this program
pub record IsOfParts (source : Source) : Type 0 where
  pub parts : RawProgram
  pub sound : first_fault parts ≡ None
  pub is : source ≡ program_of parts

-- some parts that break no rule are this program; beside it are the target of each value, and which values
-- are bits
pub record IsKept (source : Source) (ts : List Target) (bits : List Bool) : Type 0 where
  pub parts : RawProgram
  pub sound : first_fault parts ≡ None
  pub is : source ≡ program_of parts
  pub targets_kept : ts ≡ targets_of source.ops
  pub bits_kept : bits ≡ bits_of source.params source.ops
