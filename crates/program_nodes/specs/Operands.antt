-- Forms and nodes of a program: which forms are made for it, which nodes are bits, and what stands before an operation.
use Rattle.std.specs.Prelude.{◌≡◌, ℕ, ◌<◌, ◌≤◌, List, [], ◌∷◌, length, Bool, true, IsFalse, IsSomeAnd, slice_get}
use Rattle.word_operations.specs.declared.kind.Kind.{Kind}
use Rattle.word_operations.specs.Operations.{operand_count, takes_bit}
use Rattle.word_program.specs.declared.parameter.Param.{Param}
use Rattle.word_program.specs.declared.operation.Op.{Op}
use Rattle.word_program.specs.Accepted.{IsOp}
use Rattle.word_program.specs.Values.{is_output, word_bounds}
use Rattle.terms.specs.declared.nodes.Node.{Node}
use Rattle.terms.specs.declared.nodes.Form.{Form}
use Rattle.terms.specs.declared.nodes.Form.TheVariants as forms
use Rattle.terms.specs.Tables.{node_at, IsTable}
use Rattle.terms.specs.Grown.{IsGrown}

-- A form that is made for a program: an input word is that of an input parameter, and has its bounds. Every other form
-- has no condition.
abbrev pub IsProgramForm : List Param → Form → Type 0
IsProgramForm params (forms.In param word low high) =
    (word_bounds params param word ≡ record { low = low; high = high })
    × IsSomeAnd (slice_get params param) (λ p. IsFalse (is_output p.role) × (word < length p.bounds))
IsProgramForm params _ = Unit {0}

-- the number of a node that is at most 1
pub record IsBit (table : List Node) (number : ℕ) : Type 0 where
  pub inside : number < length table
  pub high : (node_at table number).high ≤ 1

-- the number of a node, which is at most 1 where it is told to be a bit
pub record IsNodeOf (table : List Node) (told : Bool) (number : ℕ) : Type 0 where
  pub inside : number < length table
  pub bit : told ≡ true → (node_at table number).high ≤ 1

-- as many nodes as are told of
abbrev pub AreNodesOf : List Node → List Bool → List ℕ → Type 0
AreNodesOf table [] [] = Unit {0}
AreNodesOf table [] (number ∷ numbers) = ⊥
AreNodesOf table (told ∷ more) [] = ⊥
AreNodesOf table (told ∷ more) (number ∷ numbers) = IsNodeOf table told number × AreNodesOf table more numbers

-- Nodes of the operands of an operation of this kind, as many as it has; the first one is at most 1 where the kind
-- takes a carry, a borrow or a condition.
pub record AreOperandNodes (table : List Node) (kind : Kind) (a b c : ℕ) : Type 0 where
  pub first : a < length table
  pub second : 2 ≤ operand_count kind → b < length table
  pub third : 3 ≤ operand_count kind → c < length table
  pub taken : takes_bit kind ≡ true → (node_at table a).high ≤ 1

-- what stands before an operation: a table that forms of the program made, and nodes of the values so far, of which
-- these are bits
pub record IsNextOp (params : List Param) (table : List Node) (values : List ℕ) (op : Op) : Type 0 where
  pub bits : List Bool
  pub legal : IsOp params bits op
  pub is_table : IsTable table
  pub grown : IsGrown (IsProgramForm params) table
  pub nodes : AreNodesOf table bits values
