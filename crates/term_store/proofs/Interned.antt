-- What is interned, and what is made, by cases.
use Rattle.std.proofs.Common.{◌≡◌, ℕ, List, [], ◌∷◌, ◌++◌, length, Some, None, sym, ap, ◌∙◌, append_assoc}
use Rattle.base.specs.Options.{pick}
use Rattle.terms.specs.declared.nodes.Node.{Node}
use Rattle.terms.specs.declared.nodes.Form.{Form}
use Rattle.terms.specs.declared.nodes.Built.TheVariants.{Is, Make}
use Rattle.terms.specs.Rules.{normal_of}
use Rattle.term_store.specs.Interning.{place_of, interned, entered, made}

pub interned_found : (t : List Node) (node : Node) (n : ℕ) → place_of t node ≡ Some n
    → interned t node ≡ record { table = t; number = n }
unfolding interned
interned_found t node n e = ap (λ o. pick o (λ n. record { table = t; number = n })
    (record { table = t ++ node ∷ []; number = length t })) e

pub interned_new : (t : List Node) (node : Node) → place_of t node ≡ None
    → interned t node ≡ record { table = t ++ node ∷ []; number = length t }
unfolding interned
interned_new t node e = ap (λ o. pick o (λ n. record { table = t; number = n })
    (record { table = t ++ node ∷ []; number = length t })) e

-- a new node at the end of the table
pub pushed_is_interned : (t : List Node) (node : Node) (n : ℕ) → place_of t node ≡ None → n ≡ length t
    → record { table = t ++ node ∷ []; number = n } ≡ interned t node
pushed_is_interned t node n e p = (λ i. record { table = t ++ node ∷ []; number = p i }) ∙ sym (interned_new t node e)

pub pushed_is_joined : (base own : List Node) (node : Node) (n : ℕ) → place_of (base ++ own) node ≡ None
    → n ≡ length (base ++ own)
    → record { table = base ++ (own ++ node ∷ []); number = n } ≡ interned (base ++ own) node
pushed_is_joined base own node n e p =
    (λ i. record { table = sym (append_assoc base own (node ∷ [])) i; number = n })
    ∙ pushed_is_interned (base ++ own) node n e p

pub made_there : (t : List Node) (form : Form) (n : ℕ) → normal_of t form ≡ Is n
    → made t form ≡ record { table = t; number = n }
unfolding made
made_there t form n e = ap (entered t) e

pub made_interned : (t : List Node) (form : Form) (node : Node) → normal_of t form ≡ Make node
    → made t form ≡ interned t node
unfolding made
made_interned t form node e = ap (entered t) e
