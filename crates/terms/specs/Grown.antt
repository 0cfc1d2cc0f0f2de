-- Tables that the rules have made. In such a table each node is sound wherever the forms' premises hold, so the
-- intervals by which a rule decides are right.
use Rattle.std.specs.Prelude.{◌≡◌, ℕ, ◌<◌, List, length, take}
use Rattle.terms.specs.declared.nodes.Node.{Node}
use Rattle.terms.specs.declared.nodes.Form.{Form}
use Rattle.terms.specs.declared.nodes.Built.TheVariants.{Make}
use Rattle.terms.specs.Tables.{node_at}
use Rattle.terms.specs.Forms.{FormFits}
use Rattle.terms.specs.Rules.{normal_of}

-- the rules make the node with this number of a form, over the nodes before it
pub record IsMade (HasForm : Form → Type 0) (table : List Node) (n : ℕ) : Type 0 where
  pub form : Form
  pub has : HasForm form
  pub fits : FormFits (take n table) form
  pub made : normal_of (take n table) form ≡ Make (node_at table n)

-- the rules made each node of the table, of such forms
pub record IsGrown (HasForm : Form → Type 0) (table : List Node) : Type 0 where
  pub each : (n : ℕ) → n < length table → IsMade HasForm table n
