-- The nodes of a program's values, in the order in which they are made: the starts of the registers, the input words,
-- and then for each operation its operands and its results.
use Rattle.std.specs.Prelude.{◌≡◌, ℕ, ◌+◌, ◌-◌, ◌^◌, List, [], ◌∷◌, ◌++◌, length, map, fold}
use Rattle.std.specs.Prelude.{slice_index, if◌then◌else◌}
use Rattle.std.specs.List.{range_with_len}
use Rattle.word_operations.specs.declared.kind.Kind.{Kind}
use Rattle.word_operations.specs.declared.kind.Kind.TheVariants.{AddCarry, SubBorrow, MulX, CMov, Add, Sub, Mul, And}
use Rattle.word_operations.specs.declared.kind.Kind.TheVariants.{Or, Xor, Not, Copy, Shl, Shr, Shrd}
use Rattle.word_program.specs.declared.parameter.Param.{Param}
use Rattle.word_program.specs.declared.operation.Op.{Op}
use Rattle.word_program.specs.declared.operation.Operand.{Operand}
use Rattle.word_program.specs.declared.operation.Operand.TheVariants as operands
use Rattle.word_program.specs.Program.{Source}
use Rattle.word_program.specs.Values.{AreWithin, input_bounds, input_word, is_output, outputs_from}
use Rattle.word_program.specs.Values.{targets_of, word_bounds}
use Rattle.terms.specs.declared.nodes.Node.{Node}
use Rattle.terms.specs.declared.nodes.Form.{Form}
use Rattle.terms.specs.declared.nodes.Form.TheVariants as forms
use Rattle.terms.specs.Meaning.{IsSound, IsValuation, Start}
use Rattle.term_store.specs.Interning.{AllMade, made_all}
use Rattle.program_nodes.specs.Terms.{term, plus, minus, sum}

-- ---- inputs

-- the input word, with its bounds
abbrev pub input_form : List Param → ℕ → ℕ → Form
input_form params param word =
    let bounds = word_bounds params param word in forms.In param word bounds.low bounds.high

-- the forms of the words of one parameter
abbrev pub param_forms : List Param → ℕ → Param → List Form
param_forms params param p =
    if is_output p.role then [] else map (input_form params param) (range_with_len 0 (length p.bounds))

-- and of parameters of which the first has this number
abbrev pub inputs_from : List Param → ℕ → List Param → List Form
inputs_from params param [] = []
inputs_from params param (p ∷ ps) = param_forms params param p ++ inputs_from params (param + 1) ps

-- the starts of the sixteen registers, and the input words
abbrev pub start_forms : List Param → List Form
start_forms params = map forms.Start (range_with_len 0 16) ++ inputs_from params 0 params

-- ---- operations

-- the form of an operand that is no value
abbrev pub operand_made : List Param → List ℕ → List Node → Operand → AllMade
operand_made params values table (operands.Literal n) = made_all table (forms.Const n ∷ [])
operand_made params values table (operands.Input param word) = made_all table (input_form params param word ∷ [])
operand_made params values table (operands.Value number) = record {
  table = table;
  numbers = slice_index values number ∷ [];
}

-- the nodes of operands, in order
abbrev pub operands_made : List Param → List ℕ → List Node → List Operand → AllMade
operands_made params values table [] = record { table = table; numbers = [] }
operands_made params values table (operand ∷ more) =
    let first = operand_made params values table operand in
    let rest = operands_made params values first.table more in
    record { table = rest.table; numbers = first.numbers ++ rest.numbers }

-- the nodes of an operation's results; its operands' nodes are a, b and c, of which a carry, a borrow and a condition
-- come first
abbrev pub results_made : Kind → List Node → ℕ → ℕ → ℕ → AllMade
results_made AddCarry table c a b =
    made_all table (sum (plus c ∷ plus a ∷ plus b ∷ []) ∷ forms.Carry (c ∷ a ∷ b ∷ []) ∷ [])
results_made SubBorrow table c a b =
    made_all table (sum (plus a ∷ minus b ∷ minus c ∷ []) ∷ forms.Borrow a (b ∷ c ∷ []) ∷ [])
results_made MulX table a b z = made_all table (forms.MulLo a b ∷ forms.MulHi a b ∷ [])
results_made CMov table c z nz = made_all table (forms.Select c z nz ∷ [])
results_made Add table a b z = made_all table (sum (plus a ∷ plus b ∷ []) ∷ [])
results_made Sub table a b z = made_all table (sum (plus a ∷ minus b ∷ []) ∷ [])
results_made Mul table a b z = made_all table (forms.MulLo a b ∷ [])
results_made And table a b z = made_all table (forms.And a b ∷ [])
results_made Or table a b z = made_all table (forms.Or a b ∷ [])
results_made Xor table a b z = made_all table (forms.Xor a b ∷ [])
results_made Not table a y z = made_all table (forms.Lin (2 ^ 64 - 1) (minus a ∷ []) ∷ [])
results_made Copy table a y z = record { table = table; numbers = a ∷ [] }
results_made (Shl k) table a y z = made_all table (sum (term (2 ^ k) a ∷ []) ∷ [])
results_made (Shr k) table a y z = made_all table (forms.Shr a k ∷ [])
results_made (Shrd k) table lo hi z =
    let parts = made_all table (forms.Shr lo k ∷ sum (term (2 ^ (64 - k)) hi ∷ []) ∷ []) in
    made_all parts.table (sum (plus (slice_index parts.numbers 0) ∷ plus (slice_index parts.numbers 1) ∷ []) ∷ [])

unfoldable pub op_made : List Param → List ℕ → List Node → Op → AllMade
op_made params values table op =
    let args = operands_made params values table op.args in
    results_made op.kind args.table (slice_index args.numbers 0) (slice_index args.numbers 1)
    (slice_index args.numbers 2)

-- ---- programs

-- the values' nodes so far, and those of one operation more
abbrev pub and_op : List Param → AllMade → Op → AllMade
and_op params values op =
    let results = op_made params values.numbers values.table op in
    record { table = results.table; numbers = values.numbers ++ results.numbers }

-- the table of a program's nodes, and the nodes of its values by their value numbers
unfoldable pub source_made : Source → AllMade
source_made program = fold (and_op program.params)
    (record { table = (made_all [] (start_forms program.params)).table; numbers = [] }) program.ops

-- the nodes of the output words, in the order of the parameters
unfoldable pub source_outputs : Source → List ℕ
source_outputs program = outputs_from (targets_of program.ops) (source_made program).numbers 0 program.params

-- `val` gives the program's nodes their words in a run on these inputs, which are within their bounds
pub record IsRunOn (program : Source) (inputs : List ℕ) (start : Start) (val : ℕ → ℕ) : Type 0 where
  pub within : AreWithin inputs (input_bounds program.params)
  pub given : (param word : ℕ) → start.inputs param word ≡ input_word program.params inputs param word
  pub valuation : IsValuation start (source_made program).table val
  pub sound : IsSound (source_made program).table val
