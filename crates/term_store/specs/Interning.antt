-- How a table grows: by a node, or by what the rules make of a form.
use Rattle.std.specs.Prelude.{ℕ, List, [], ◌∷◌, ◌++◌, length, Option, position}
use Rattle.base.specs.Options.{pick}
use Rattle.terms.specs.declared.nodes.Node.{Node}
use Rattle.terms.specs.declared.nodes.Form.{Form}
use Rattle.terms.specs.declared.nodes.Built.{Built}
use Rattle.terms.specs.declared.nodes.Built.TheVariants.{Is, Make}
use Rattle.terms.specs.Rules.{normal_of}
use Rattle.terms.specs.contracts.nodes.NodePartialEq.TheImpl.{eq-value as node_eq}

-- a table, and the number of one of its nodes
pub record Interned : Type 0 where
  pub table : List Node
  pub number : ℕ

-- where the node stands first in the table
abbrev pub place_of : List Node → Node → Option ℕ
place_of table node = position (λ other. node_eq.it node other) table

-- the node's number, where the table has it; else it goes to the end
unfoldable pub interned : List Node → Node → Interned
interned table node = pick (place_of table node) (λ n. record { table = table; number = n })
    (record { table = table ++ node ∷ []; number = length table })

abbrev pub entered : List Node → Built → Interned
entered table (Is n) = record { table = table; number = n }
entered table (Make node) = interned table node

-- the rules' result for a form, interned
unfoldable pub made : List Node → Form → Interned
made table form = entered table (normal_of table form)

-- forms made one after the other, and their numbers in order
pub record AllMade : Type 0 where
  pub table : List Node
  pub numbers : List ℕ

abbrev pub made_all : List Node → List Form → AllMade
made_all table [] = record { table = table; numbers = [] }
made_all table (form ∷ forms) =
    let first = made table form in
    let rest = made_all first.table forms in
    record { table = rest.table; numbers = first.number ∷ rest.numbers }
