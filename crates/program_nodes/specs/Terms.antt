-- Terms and sums, as programs and instructions need them.
use Rattle.std.specs.Prelude.{ℕ, ◌-◌, ◌^◌, List}
use Rattle.terms.specs.declared.lists.Term.{Term}
use Rattle.terms.specs.declared.nodes.Form.{Form}
use Rattle.terms.specs.declared.nodes.Form.TheVariants as forms

-- so many times a node
abbrev pub term : ℕ → ℕ → Term
term times node = record { times = times; node = node }

abbrev pub plus : ℕ → Term
plus node = term 1 node

-- as many times a node as -1 in two's complement
abbrev pub minus : ℕ → Term
minus node = term (2 ^ 64 - 1) node

abbrev pub sum : List Term → Form
sum terms = forms.Lin 0 terms
