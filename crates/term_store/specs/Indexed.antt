-- What keeps a table and an index of it together.
use Rattle.std.specs.Prelude.{◌≡◌, ℕ, ◌+◌, ◌-◌, ◌^◌, ◌<◌, ◌≤◌, List, ◌++◌, length, Some}
use Rattle.std.specs.HashMap.{HashMap, get}
use Rattle.terms.specs.declared.nodes.Node.{Node}
use Rattle.terms.specs.Tables.{node_at, IsTable}
use Rattle.terms.specs.contracts.nodes.NodePartialEq.TheImpl.{eq-value as node_eq}

-- the index has exactly the nodes of the list, each with its place in a table where so many nodes stand before the list
pub record IsIndex {S : Type 0} (before : ℕ) (list : List Node) (index : HashMap Node ℕ S) : Type 0 where
  pub has : (n : ℕ) → n < length list → get node_eq.it index (node_at list n) ≡ Some (before + n)
  pub only : (node : Node) (n : ℕ) → get node_eq.it index node ≡ Some n
      → (before ≤ n) × (n < before + length list) × (node_at list (n - before) ≡ node)

-- a table of at most 2^32 - 1 nodes, and its index
pub record IsStore {S : Type 0} (list : List Node) (index : HashMap Node ℕ S) : Type 0 where
  pub table : IsTable list
  pub indexed : IsIndex 0 list index
  pub short : length list < 2 ^ 32

-- a table in two parts, the first one's nodes and its own
pub record Joined : Type 0 where
  pub base : List Node
  pub own : List Node

abbrev pub joined_nodes : Joined → List Node
joined_nodes j = j.base ++ j.own

pub record IsTail {S : Type 0} (j : Joined) (index : HashMap Node ℕ S) : Type 0 where
  pub table : IsTable (joined_nodes j)
  pub indexed : IsIndex (length j.base) j.own index
  pub short : length (joined_nodes j) < 2 ^ 32
