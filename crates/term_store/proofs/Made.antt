-- What is made of a form: the table after it, its number, and the word for which this number stands.
use Rattle.std.proofs.Common.{◌≡◌, ℕ, ◌+◌, ◌<◌, ◌≤◌, List, [], ◌∷◌, ◌++◌, length, Option, Some, None, refl, sym, ap}
use Rattle.std.proofs.Common.{◌∙◌, subst, arith}
use Rattle.std.proofs.lemmas.List.{length_push}
use Rattle.terms.specs.declared.nodes.Node.{Node}
use Rattle.terms.specs.declared.nodes.Form.{Form}
use Rattle.terms.specs.declared.nodes.Form.TheVariants as forms
use Rattle.terms.specs.declared.nodes.Built.{Built}
use Rattle.terms.specs.declared.nodes.Built.TheVariants.{Is, Make}
use Rattle.terms.specs.Tables.{node_at, Prefix, IsTable}
use Rattle.terms.specs.Forms.{FormFits, BuiltFits}
use Rattle.terms.specs.Meaning.{Start, kind_value, form_value, IsValuation, IsSound, Admits, Stands}
use Rattle.terms.specs.Rules.{by_number, normal_of}
use Rattle.terms.proofs.Bits.{carry_bit, borrow_bit}
use Rattle.terms.proofs.Highs.{IsHighBuilt, zero_high}
use Rattle.terms.proofs.NormalForms.{normal_stands, normal_fits}
use Rattle.term_store.specs.Interning.{Interned, place_of, interned, made}
use Rattle.term_store.proofs.Prefixes.{prefix_refl, prefix_push, at_end, at_front, valuation_front}
use Rattle.term_store.proofs.Prefixes.{sound_front}
use Rattle.term_store.proofs.Places.{IsPlace, at_place, no_place, place_is, place_later}
use Rattle.term_store.proofs.Index.{table_push}
use Rattle.term_store.proofs.Interned.{interned_found, interned_new, made_there, made_interned}

-- ---- by cases

-- a node that the table has, and one that it has not
pub by_interned : (P : Interned → Type 0) (t : List Node) (node : Node)
    → ((n : ℕ) → place_of t node ≡ Some n → P (record { table = t; number = n }))
    → (place_of t node ≡ None → P (record { table = t ++ node ∷ []; number = length t }))
    → P (interned t node)
by_interned P t node f g = cases (place_of t node) refl where
  cases : (o : Option ℕ) → place_of t node ≡ o → P (interned t node)
  cases None e = subst P (sym (interned_new t node e)) (g e)
  cases (Some n) e = subst P (sym (interned_found t node n e)) (f n e)

-- a form that is a number of the table, and one of which a node is made
pub by_made : (P : Interned → Type 0) (t : List Node) (form : Form)
    → ((n : ℕ) → normal_of t form ≡ Is n → P (record { table = t; number = n }))
    → ((node : Node) → normal_of t form ≡ Make node → P (interned t node))
    → P (made t form)
by_made P t form f g = cases (normal_of t form) refl where
  cases : (b : Built) → normal_of t form ≡ b → P (made t form)
  cases (Is n) e = subst P (sym (made_there t form n e)) (f n e)
  cases (Make node) e = subst P (sym (made_interned t form node e)) (g node e)

-- ---- the table

interned_prefix : (t : List Node) (node : Node) → Prefix t (interned t node).table
interned_prefix t node =
    by_interned (λ (r : Interned). Prefix t r.table) t node (λ n e. prefix_refl t) (λ e. prefix_push t node)

pub made_prefix : (t : List Node) (form : Form) → Prefix t (made t form).table
made_prefix t form =
    by_made (λ (r : Interned). Prefix t r.table) t form (λ n e. prefix_refl t) (λ node e. interned_prefix t node)

pub made_most : (t : List Node) (form : Form) → length (made t form).table ≤ length t + 1
made_most t form =
    by_made (λ (r : Interned). length r.table ≤ length t + 1) t form (λ n e. omega arith)
    (λ node e. by_interned (λ (r : Interned). length r.table ≤ length t + 1) t node (λ n p. omega arith)
    (λ p. let last = length_push t node in omega arith))

-- ---- the number

-- the number of a table whose node is this one, and stands there first
pub interned_place : (t : List Node) (node : Node) → IsPlace (interned t node).table node (interned t node).number
interned_place t node =
    by_interned (λ (r : Interned). IsPlace r.table node r.number) t node (λ n e. at_place t node n e)
    (λ e. let last = length_push t node in record {
      within = omega arith;
      here = at_end t node;
      before = λ j h same. no_place t node e j h (sym (at_front j (prefix_push t node) h) ∙ same);
    })

pub made_table : (t : List Node) (form : Form) → IsTable t → FormFits t form → IsTable (made t form).table
made_table t form table fits =
    by_made (λ (r : Interned). IsTable r.table) t form (λ n e. table)
    (λ node e. by_interned (λ (r : Interned). IsTable r.table) t node (λ n p. table)
    (λ p. table_push t node table (subst (BuiltFits t) e (normal_fits t form table fits)) p))

pub made_below : (t : List Node) (form : Form) → IsTable t → FormFits t form
    → (made t form).number < length (made t form).table
made_below t form table fits =
    by_made (λ (r : Interned). r.number < length r.table) t form
    (λ n e. subst (BuiltFits t) e (normal_fits t form table fits))
    (λ node e. (interned_place t node).within)

-- ---- its word

pub made_value : (start : Start) (val : ℕ → ℕ) (t : List Node) (form : Form) → IsTable t → FormFits t form
    → Admits start form → IsValuation start (made t form).table val → IsSound (made t form).table val
    → val (made t form).number ≡ form_value start val form
made_value start val t form table fits admits valued sound =
    let stands = normal_stands start val t form table fits (valuation_front (made_prefix t form) valued)
    (sound_front (made_prefix t form) sound) admits in
    by_made (λ (r : Interned). IsValuation start r.table val → val r.number ≡ form_value start val form) t form
    (λ n e v. subst (Stands start val (form_value start val form)) e stands)
    (λ node e v.
    let here = interned_place t node in
    let word = subst (Stands start val (form_value start val form)) e stands in
    v.meets (interned t node).number here.within
    ∙ ap (λ (o : Node). kind_value start val o.kind) here.here ∙ word.0) valued

-- ---- how high it is

-- a carry, a borrow, a test, and the constants 0 and 1
abbrev pub IsBitForm : Form → Type 0
IsBitForm (forms.Const v) = v ≤ 1
IsBitForm (forms.Carry list) = Unit {0}
IsBitForm (forms.Borrow a list) = Unit {0}
IsBitForm (forms.Zero x) = Unit {0}
IsBitForm _ = ⊥

pub made_high : (t : List Node) (form : Form) (h : ℕ) → IsHighBuilt t h (normal_of t form)
    → (node_at (made t form).table (made t form).number).high ≤ h
made_high t form h built =
    by_made (λ (r : Interned). (node_at r.table r.number).high ≤ h) t form
    (λ n e. subst (IsHighBuilt t h) e built)
    (λ node e. subst (λ (o : Node). o.high ≤ h) (sym (interned_place t node).here) (subst (IsHighBuilt t h) e built))

bit_built : (table : List Node) (form : Form) → IsBitForm form → IsHighBuilt table 1 (normal_of table form)
unfolding normal_of
bit_built table (forms.Const v) bit = bit
bit_built table (forms.Carry list) bit = carry_bit table (by_number list)
bit_built table (forms.Borrow a list) bit = borrow_bit table a (by_number list)
bit_built table (forms.Zero x) bit = zero_high table x
bit_built table (forms.Start reg) bit = absurd bit
bit_built table (forms.In param word low high) bit = absurd bit
bit_built table (forms.Lin k terms) bit = absurd bit
bit_built table (forms.MulLo a b) bit = absurd bit
bit_built table (forms.MulHi a b) bit = absurd bit
bit_built table (forms.And a b) bit = absurd bit
bit_built table (forms.Or a b) bit = absurd bit
bit_built table (forms.Xor a b) bit = absurd bit
bit_built table (forms.Shr x k) bit = absurd bit
bit_built table (forms.Select c x y) bit = absurd bit
bit_built table (forms.SetB v b) bit = absurd bit

pub made_bit : (t : List Node) (form : Form) → IsTable t → FormFits t form → IsBitForm form
    → (node_at (made t form).table (made t form).number).high ≤ 1
made_bit t form table fits bit = made_high t form 1 (bit_built t form bit)

-- ---- made again, over a longer table

pub interned_later : {t u : List Node} (node : Node) (n : ℕ) → Prefix t u → place_of t node ≡ Some n
    → interned u node ≡ record { table = u; number = n }
interned_later {t} {u} node n p e = interned_found u node n (place_later t u node n p e)

-- the rule makes the same node over both tables
pub made_again : {u : List Node} (t : List Node) (form : Form) (node : Node) → normal_of t form ≡ Make node
    → normal_of u form ≡ Make node → Prefix (made t form).table u
    → made u form ≡ record { table = u; number = (made t form).number }
made_again {u} t form node e f p =
    let q = subst (λ (r : Interned). Prefix r.table u) (made_interned t form node e) p in
    let here = interned_place t node in
    made_interned u form node f
    ∙ interned_later node (interned t node).number q
    (place_is (interned t node).table node (interned t node).number here.within here.here here.before)
    ∙ ap (λ (r : Interned). record { table = u; number = r.number }) (sym (made_interned t form node e))

-- a form whose rule reads nothing of the table
abbrev pub IsPlain : Form → Type 0
IsPlain (forms.Const v) = Unit {0}
IsPlain (forms.Start reg) = Unit {0}
IsPlain (forms.In param word low high) = Unit {0}
IsPlain _ = ⊥

pub made_again_plain : {u : List Node} (t : List Node) (form : Form) → IsPlain form → Prefix (made t form).table u
    → made u form ≡ record { table = u; number = (made t form).number }
unfolding normal_of
made_again_plain t (forms.Const v) h p = made_again t (forms.Const v) _ refl refl p
made_again_plain t (forms.Start reg) h p = made_again t (forms.Start reg) _ refl refl p
made_again_plain t (forms.In param word low high) h p = made_again t (forms.In param word low high) _ refl refl p
made_again_plain t form h p = absurd h
