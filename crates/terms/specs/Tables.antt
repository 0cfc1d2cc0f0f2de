-- Tables of nodes. A node is numbered by its place in the table, and refers to nodes of smaller numbers alone.
use Rattle.std.specs.Prelude.{◌≡◌, ◌≢◌, ℕ, ◌<◌, List, ◌++◌, length, Option, Some, None, slice_index_or}
use Rattle.std.specs.List.{All}
use Rattle.terms.specs.declared.lists.Term.{Term}
use Rattle.terms.specs.declared.nodes.Node.{Node}
use Rattle.terms.specs.declared.nodes.NodeKind.{NodeKind}
use Rattle.terms.specs.declared.nodes.NodeKind.TheVariants as kinds

-- ---- the nodes of a table

-- what stands at a number that the table does not have
abbrev pub no_node : Node
no_node = record { kind = kinds.Const 0; low = 0; high = 0 }

abbrev pub node_at : List Node → ℕ → Node
node_at table number = slice_index_or table number no_node

-- the longer table begins with the shorter one
pub record Prefix (table longer : List Node) : Type 0 where
  pub more : List Node
  pub is : longer ≡ table ++ more

-- the word that a constant stands for
abbrev pub const_of : NodeKind → Option ℕ
const_of (kinds.Const v) = Some v
const_of _ = None

-- ---- to which nodes a node refers

-- each term's node has a number below n
abbrev pub AreTermsBelow : ℕ → List Term → Type 0
AreTermsBelow n terms = All (λ t. t.node < n) terms

abbrev pub AreBelow : ℕ → List ℕ → Type 0
AreBelow n numbers = All (λ m. m < n) numbers

-- a kind that refers to numbers below n alone
abbrev pub RefersBelow : ℕ → NodeKind → Type 0
RefersBelow n (kinds.Const v) = Unit {0}
RefersBelow n (kinds.Start reg) = Unit {0}
RefersBelow n (kinds.In param word) = Unit {0}
RefersBelow n (kinds.Sum k terms) = AreTermsBelow n terms
RefersBelow n (kinds.Wide k terms) = AreTermsBelow n terms
RefersBelow n (kinds.Carry list) = AreBelow n list
RefersBelow n (kinds.Borrow a list) = (a < n) × AreBelow n list
RefersBelow n (kinds.Zero x) = x < n
RefersBelow n (kinds.MulLo a b) = (a < n) × (b < n)
RefersBelow n (kinds.MulHi a b) = (a < n) × (b < n)
RefersBelow n (kinds.And a b) = (a < n) × (b < n)
RefersBelow n (kinds.Or a b) = (a < n) × (b < n)
RefersBelow n (kinds.Xor a b) = (a < n) × (b < n)
RefersBelow n (kinds.Shr x k) = x < n
RefersBelow n (kinds.Select c x y) = (c < n) × (x < n) × (y < n)
RefersBelow n (kinds.SetB v b) = (v < n) × (b < n)

-- distinct nodes, each of which refers to smaller numbers alone
pub record IsTable (table : List Node) : Type 0 where
  pub below : (n : ℕ) → n < length table → RefersBelow n (node_at table n).kind
  pub distinct : (m n : ℕ) → m < n → n < length table → node_at table m ≢ node_at table n
