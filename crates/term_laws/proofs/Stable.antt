-- A form has the same number, or makes the same node, over a longer table.
use Rattle.std.proofs.Common.{◌≡◌, ℕ, ◌<◌, List, length}
use Rattle.std.proofs.Common.{refl, sym, ap, ◌∙◌, subst}
use Rattle.intervals.specs.Intervals.{full}
use Rattle.terms.specs.declared.nodes.Node.{Node}
use Rattle.terms.specs.declared.nodes.NodeKind.TheVariants as kinds
use Rattle.terms.specs.declared.nodes.Form.{Form}
use Rattle.terms.specs.declared.nodes.Form.TheVariants as forms
use Rattle.terms.specs.declared.nodes.Built.{Built}
use Rattle.terms.specs.declared.nodes.Built.TheVariants.{Is, Make}
use Rattle.terms.specs.Tables.{node_at, IsTable, Prefix}
use Rattle.terms.specs.Forms.{FormFits}
use Rattle.terms.specs.Rules.{and_of, by_number}
use Rattle.terms.specs.Rules.{const_node, finished}
use Rattle.terms.specs.Rules.{mul_hi_of, mul_lo_of, normal_of, or_of}
use Rattle.terms.specs.Rules.{xor_of}
use Rattle.terms.proofs.NumberLists.{number_below}
use Rattle.term_store.specs.Interning.{Interned, entered, made}
use Rattle.term_store.proofs.Interned.{made_interned, made_there}
use Rattle.term_store.proofs.Made.{interned_place, made_again, made_prefix}
use Rattle.term_store.proofs.Places.{IsPlace}
use Rattle.term_store.proofs.Prefixes.{fits_later, prefix_refl}
use Rattle.term_laws.specs.Numbers.{Has}
use Rattle.term_laws.proofs.LaterRules.{borrow_later, carry_later, lin_later, mul_lo_later, shr_later, zero_later}
use Rattle.term_laws.proofs.LaterRules.{and_later, mul_hi_later, or_later, pair_later, select_later, xor_later}

-- ---- every form

pub normal_later : {t u : List Node} (form : Form) → IsTable t → FormFits t form → Prefix t u
    → normal_of u form ≡ normal_of t form
unfolding normal_of
normal_later (forms.Const v) table f p = refl
normal_later (forms.Start reg) table f p = refl
normal_later (forms.In param word low high) table f p = refl
normal_later (forms.Lin k ts) table f p = lin_later table p k ts f.0
normal_later {t} (forms.Carry list) table f p =
    carry_later table p (by_number list) (number_below (length t) list f.0)
normal_later {t} (forms.Borrow a list) table f p =
    borrow_later table p a (by_number list) f.0 (number_below (length t) list f.1)
normal_later (forms.Zero x) table f p = zero_later table p x f
normal_later {t} {u} (forms.MulLo a b) table f p =
    pair_later table p (mul_lo_of u) (mul_lo_of t) (mul_lo_later table p) a b f.0 f.1
normal_later {t} {u} (forms.MulHi a b) table f p =
    pair_later table p (mul_hi_of u) (mul_hi_of t) (mul_hi_later table p) a b f.0 f.1
normal_later {t} {u} (forms.And a b) table f p =
    pair_later table p (and_of u) (and_of t) (and_later table p) a b f.0 f.1
normal_later {t} {u} (forms.Or a b) table f p =
    pair_later table p (or_of u) (or_of t) (or_later table p) a b f.0 f.1
normal_later {t} {u} (forms.Xor a b) table f p =
    pair_later table p (xor_of u) (xor_of t) (xor_later table p) a b f.0 f.1
normal_later (forms.Shr x k) table f p = shr_later table p x k f.0
normal_later (forms.Select c x y) table f p = select_later table p c x y f.0 f.1 f.2
normal_later (forms.SetB v b) table f p = refl

-- ---- what is made of it

-- where the rules give a number, this is the form's
pub made_is : (t : List Node) (form : Form) (n : ℕ) → normal_of t form ≡ Is n
    → made t form ≡ record { table = t; number = n }
made_is t form n e = made_there t form n e

-- where they make a node of a form, it stands at the form's number
pub made_node : (t : List Node) (form : Form) (node : Node) → normal_of t form ≡ Make node
    → node_at (made t form).table (made t form).number ≡ node
made_node t form node e =
    subst (λ (r : Interned). node_at r.table r.number ≡ node) (sym (made_interned t form node e))
    (interned_place t node).here

-- forms of which the rules make the same are made alike
pub made_alike : (t : List Node) (f g : Form) → normal_of t f ≡ normal_of t g → made t f ≡ made t g
unfolding made
made_alike t f g e = ap (entered t) e

pub has_later : {t u : List Node} {form : Form} {n : ℕ} → IsTable t → Prefix t u → Has t form n → Has u form n
has_later {t} {u} {form} {n} table p h = record {
  fits = fits_later form p h.fits;
  is = cases (normal_of t form) refl;
} where
  cases : (b : Built) → normal_of t form ≡ b → made u form ≡ record { table = u; number = n }
  cases (Is m) e =
      let same : m ≡ n = ap (λ (r : Interned). r.number) (sym (made_there t form m e) ∙ h.is) in
      made_there u form m (normal_later form table h.fits p ∙ e) ∙ (λ i. record { table = u; number = same i })
  cases (Make node) e =
      made_again t form node e (normal_later form table h.fits p ∙ e)
      (subst (λ (r : Interned). Prefix r.table u) (sym h.is) p)
      ∙ ap (λ (r : Interned). record { table = u; number = r.number }) h.is

pub made_has : (t : List Node) (form : Form) → IsTable t → FormFits t form
    → Has (made t form).table form (made t form).number
made_has t form table fits = record {
  fits = fits_later form (made_prefix t form) fits;
  is = cases (normal_of t form) refl;
} where
  cases : (b : Built) → normal_of t form ≡ b
      → made (made t form).table form ≡ record { table = (made t form).table; number = (made t form).number }
  cases (Is n) e = subst (λ (r : Interned). made r.table form ≡ record { table = r.table; number = r.number })
      (sym (made_there t form n e)) (made_there t form n e)
  cases (Make node) e =
      made_again t form node e (normal_later form table fits (made_prefix t form) ∙ e)
      (prefix_refl (made t form).table)

-- ---- nodes that stand for a form

has_node : {t : List Node} {n : ℕ} (form : Form) (node : Node) → normal_of t form ≡ Make node → Has t form n
    → (n < length t) × (node_at t n ≡ node)
has_node {t} {n} form node e h =
    let place = subst (λ (r : Interned). IsPlace r.table node r.number) (sym (made_interned t form node e) ∙ h.is)
    (interned_place t node) in
    (place.within, place.here)

-- the number of a constant is that of the constant's node
pub has_const : {t : List Node} {n : ℕ} (word : ℕ) → Has t (forms.Const word) n
    → (n < length t) × (node_at t n ≡ const_node word)
unfolding normal_of
has_const word h = has_node (forms.Const word) (const_node word) refl h

-- the number of a register's start is that of its node, and a word of any size may be there
pub has_start : {t : List Node} {n : ℕ} (reg : ℕ) → Has t (forms.Start reg) n
    → (n < length t) × (node_at t n ≡ record { kind = kinds.Start reg; low = full.low; high = full.high })
unfolding normal_of finished
has_start reg h =
    has_node (forms.Start reg) (record { kind = kinds.Start reg; low = full.low; high = full.high }) refl h
