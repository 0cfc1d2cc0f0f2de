-- Which nodes the operands and the results of a program's operations have in the table of its nodes.
use Rattle.std.proofs.Common.{◌≡◌, ℕ, suc, ◌+◌, ◌-◌, ◌^◌, ◌<◌, ◌≤◌, List, [], ◌∷◌, length}
use Rattle.std.specs.Prelude.{slice_index, slice_index_or, slice_get}
use Rattle.word_operations.specs.declared.kind.Kind.{Kind}
use Rattle.word_operations.specs.declared.kind.Kind.TheVariants.{AddCarry, SubBorrow, MulX, CMov, Add, Sub, Mul, And}
use Rattle.word_operations.specs.declared.kind.Kind.TheVariants.{Or, Xor, Not, Copy, Shl, Shr, Shrd}
use Rattle.word_operations.specs.Operations.{operand_count, result_count}
use Rattle.word_program.specs.declared.operation.Op.{Op}
use Rattle.word_program.specs.declared.operation.Operand.{Operand}
use Rattle.word_program.specs.declared.operation.Operand.TheVariants as operands
use Rattle.word_program.specs.Accepted.{HasShift}
use Rattle.word_program.specs.Program.{Source}
use Rattle.word_program.specs.Values.{targets_of}
use Rattle.terms.specs.declared.nodes.Node.{Node}
use Rattle.terms.specs.declared.nodes.Form.TheVariants as forms
use Rattle.program_nodes.specs.Operands.{IsBit}
use Rattle.program_nodes.specs.Sources.{input_form, source_made}
use Rattle.program_nodes.specs.Terms.{term, plus, minus, sum}
use Rattle.dependency_graph.specs.Needs.{first_value}
use Rattle.term_laws.specs.Numbers.{Has}

-- the table of the program's nodes
abbrev pub table_of : Source → List Node
table_of program = (source_made program).table

-- the node of a value
abbrev pub value_node : Source → ℕ → ℕ
value_node program value = slice_index (source_made program).numbers value

-- the operand has this node
abbrev pub IsOperandNode : Source → Operand → ℕ → Type 0
IsOperandNode program (operands.Literal n) number = Has (table_of program) (forms.Const n) number
IsOperandNode program (operands.Input param word) number =
    Has (table_of program) (input_form program.params param word) number
IsOperandNode program (operands.Value value) number =
    (value < length (targets_of program.ops)) × (value_node program value ≡ number)

-- The table has the results of an operation of this kind on the nodes a, b and c: r, and q where there are two. A
-- carry, a borrow and a condition come first, and are bits.
abbrev pub HasResults : List Node → Kind → ℕ → ℕ → ℕ → ℕ → ℕ → Type 0
HasResults t AddCarry c a b r q = IsBit t c × IsBit t q × Has t (sum (plus c ∷ plus a ∷ plus b ∷ [])) r
    × Has t (forms.Carry (c ∷ a ∷ b ∷ [])) q
HasResults t SubBorrow c a b r q = IsBit t c × IsBit t q × Has t (sum (plus a ∷ minus b ∷ minus c ∷ [])) r
    × Has t (forms.Borrow a (b ∷ c ∷ [])) q
HasResults t MulX a b z r q = Has t (forms.MulLo a b) r × Has t (forms.MulHi a b) q
HasResults t CMov c z nz r q = IsBit t c × Has t (forms.Select c z nz) r
HasResults t Add a b z r q = Has t (sum (plus a ∷ plus b ∷ [])) r
HasResults t Sub a b z r q = Has t (sum (plus a ∷ minus b ∷ [])) r
HasResults t Mul a b z r q = Has t (forms.MulLo a b) r
HasResults t And a b z r q = Has t (forms.And a b) r
HasResults t Or a b z r q = Has t (forms.Or a b) r
HasResults t Xor a b z r q = Has t (forms.Xor a b) r
HasResults t Not a y z r q = Has t (forms.Lin (2 ^ 64 - 1) (minus a ∷ [])) r
HasResults t Copy a y z r q = r ≡ a
HasResults t (Shl k) a y z r q = Has t (sum (term (2 ^ k) a ∷ [])) r
HasResults t (Shr k) a y z r q = Has t (forms.Shr a k) r
HasResults t (Shrd k) lo hi z r q = (x : ℕ) × (y : ℕ) × Has t (forms.Shr lo k) x
    × Has t (sum (term (2 ^ (64 - k)) hi ∷ [])) y × Has t (sum (plus x ∷ plus y ∷ [])) r

-- the operand of an operation at a place, where it has one there
abbrev pub operand_at : Op → ℕ → Operand
operand_at op place = slice_index_or op.args place (operands.Literal 0)

-- Nodes of an operation with this number: of its operands by their places, and of its results. `args` gives them.
pub record OpNodes (program : Source) (number : ℕ) (op : Op) (args : ℕ → ℕ) : Type 0 where
  pub shift : HasShift op.kind
  pub arguments : length op.args ≡ operand_count op.kind
  pub targets : length op.targets ≡ result_count op.kind
  pub within : first_value program number + length op.targets ≤ length (targets_of program.ops)
  pub next : first_value program (suc number) ≡ first_value program number + length op.targets
  pub target_at : (place : ℕ) → place < length op.targets
      → slice_get (targets_of program.ops) (first_value program number + place) ≡ slice_get op.targets place
  pub operands : (place : ℕ) → place < length op.args → IsOperandNode program (operand_at op place) (args place)
  pub inside : (place : ℕ) → place < length op.args → args place < length (table_of program)
  pub results : HasResults (table_of program) op.kind (args 0) (args 1) (args 2)
      (value_node program (first_value program number)) (value_node program (suc (first_value program number)))
