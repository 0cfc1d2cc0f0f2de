-- What each node of a table that the rules have made keeps, and the table on which others stand.
use Rattle.std.proofs.Common.{◌≡◌, ℕ, ◌<◌, ◌≤◌, List, length, Some}
use Rattle.terms.specs.declared.nodes.Node.{Node}
use Rattle.terms.specs.declared.nodes.Form.{Form}
use Rattle.terms.specs.Tables.{node_at, const_of, IsTable}
use Rattle.terms.specs.Grown.{IsGrown}
use Rattle.terms.specs.Rules.{const_node}

-- its interval is ordered; where this is one word, the node is that constant; and a constant has the interval of its
-- word
pub record IsEntry (node : Node) : Type 0 where
  pub ordered : node.low ≤ node.high
  pub point : node.low ≡ node.high → node ≡ const_node node.low
  pub constant : (word : ℕ) → const_of node.kind ≡ Some word → node ≡ const_node word

-- any form
abbrev pub Any : Form → Type 0
Any form = Unit {0}

-- a table of such nodes, which the rules have made
pub record IsBase (table : List Node) : Type 0 where
  pub is_table : IsTable table
  pub grown : IsGrown Any table
  pub entries : (n : ℕ) → n < length table → IsEntry (node_at table n)
