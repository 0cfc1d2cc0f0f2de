-- Which number a table has for a form.
use Rattle.std.specs.Prelude.{◌≡◌, ℕ, List}
use Rattle.terms.specs.declared.nodes.Node.{Node}
use Rattle.terms.specs.declared.nodes.Form.{Form}
use Rattle.terms.specs.Forms.{FormFits}
use Rattle.term_store.specs.Interning.{made}

-- the table has this number for the form: whoever makes the form gets it, and the table stays as it is
pub record Has (table : List Node) (form : Form) (number : ℕ) : Type 0 where
  pub fits : FormFits table form
  pub is : made table form ≡ record { table = table; number = number }
