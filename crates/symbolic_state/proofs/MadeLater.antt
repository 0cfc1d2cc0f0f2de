-- Tables of forms made one after the other go on from the first one.
use Rattle.std.proofs.Common.{List}
use Rattle.terms.specs.declared.nodes.Node.{Node}
use Rattle.terms.specs.declared.nodes.Form.{Form}
use Rattle.terms.specs.Tables.{Prefix}
use Rattle.term_store.specs.Interning.{made}
use Rattle.term_store.proofs.Made.{made_prefix}
use Rattle.term_store.proofs.Prefixes.{prefix_trans}

pub made_later : {u : List Node} (t : List Node) (f : Form) → Prefix u t → Prefix u (made t f).table
made_later t f p = prefix_trans p (made_prefix t f)

-- and two forms after it
pub two_later : {u : List Node} (t : List Node) (f g h : Form) → Prefix u (made t f).table
    → Prefix u (made (made (made t f).table g).table h).table
two_later t f g h p = let r = made t f in made_later (made r.table g).table h (made_later r.table g p)

-- and three
pub three_later : {u : List Node} (t : List Node) (f g h : Form) → Prefix u t
    → Prefix u (made (made (made t f).table g).table h).table
three_later t f g h p = two_later t f g h (made_later t f p)

-- what the goals of code that makes several forms want
pub ruleset several = (made_later, two_later, three_later)
