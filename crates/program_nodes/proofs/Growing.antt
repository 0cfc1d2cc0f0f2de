-- How a table grows by forms that are made one after the other.
use Rattle.std.proofs.Common.{◌≡◌, ℕ, ◌+◌, ◌≤◌, Bool, true, List, [], ◌∷◌, ◌++◌, length, map, refl, subst, sym, arith}
use Rattle.std.specs.List.{AllByRecursion}
use Rattle.terms.specs.declared.nodes.Node.{Node}
use Rattle.terms.specs.declared.nodes.Form.{Form}
use Rattle.terms.specs.declared.nodes.Form.TheVariants as forms
use Rattle.terms.specs.Tables.{IsTable, Prefix}
use Rattle.terms.specs.Forms.{FormFits}
use Rattle.terms.specs.Grown.{IsGrown}
use Rattle.terms.specs.Meaning.{Admits, IsSound, IsValuation, Start, form_value}
use Rattle.term_store.specs.Interning.{made, made_all}
use Rattle.program_nodes.specs.Operands.{AreNodesOf, IsNodeOf}
use Rattle.term_store.proofs.Prefixes.{at_front, fits_later, prefix_length, prefix_refl, prefix_trans, sound_front}
use Rattle.term_store.proofs.Prefixes.{valuation_front}
use Rattle.term_store.proofs.Growth.{made_grown}
use Rattle.term_store.proofs.Made.{made_below, made_most, made_prefix, made_table, made_value}
use Rattle.program_nodes.proofs.LowNodes.{MakesBit, made_low}

-- ---- nodes in longer tables

pub node_later : (t u : List Node) (told : Bool) (n : ℕ) → Prefix t u → IsNodeOf t told n → IsNodeOf u told n
node_later t u told n p is = let more = prefix_length p in let below = is.inside in record {
  inside = omega arith;
  bit = λ e. subst (λ (node : Node). node.high ≤ 1) (sym (at_front n p is.inside)) (is.bit e);
}

pub nodes_later : (t u : List Node) (bs : List Bool) (ns : List ℕ) → Prefix t u → AreNodesOf t bs ns
    → AreNodesOf u bs ns
nodes_later t u [] [] p are = tt
nodes_later t u [] (n ∷ ns) p are = absurd are
nodes_later t u (b ∷ bs) [] p are = absurd are
nodes_later t u (b ∷ bs) (n ∷ ns) p are = (node_later t u b n p are.0, nodes_later t u bs ns p are.1)

pub nodes_append : (t : List Node) (bs cs : List Bool) (ms ns : List ℕ) → AreNodesOf t bs ms → AreNodesOf t cs ns
    → AreNodesOf t (bs ++ cs) (ms ++ ns)
nodes_append t [] cs [] ns are more = more
nodes_append t [] cs (m ∷ ms) ns are more = absurd are
nodes_append t (b ∷ bs) cs [] ns are more = absurd are
nodes_append t (b ∷ bs) cs (m ∷ ms) ns are more = (are.0, nodes_append t bs cs ms ns are.1 more)

bit_form_later : (t u : List Node) (f : Form) → Prefix t u → FormFits t f → MakesBit t f → MakesBit u f
bit_form_later t u (forms.Const v) p fits bit = bit
bit_form_later t u (forms.Start reg) p fits bit = bit
bit_form_later t u (forms.In param word low high) p fits bit = bit
bit_form_later t u (forms.Lin k terms) p fits bit = bit
bit_form_later t u (forms.Carry list) p fits bit = tt
bit_form_later t u (forms.Borrow a list) p fits bit = tt
bit_form_later t u (forms.Zero x) p fits bit = tt
bit_form_later t u (forms.MulLo a b) p fits bit = bit
bit_form_later t u (forms.MulHi a b) p fits bit = bit
bit_form_later t u (forms.And a b) p fits bit =
    rw (at_front a p fits.0, at_front b p fits.1) bit
bit_form_later t u (forms.Or a b) p fits bit =
    rw (at_front a p fits.0, at_front b p fits.1) bit
bit_form_later t u (forms.Xor a b) p fits bit =
    rw (at_front a p fits.0, at_front b p fits.1) bit
bit_form_later t u (forms.Shr x k) p fits bit = bit
bit_form_later t u (forms.Select c x y) p fits bit =
    rw (at_front x p fits.1, at_front y p fits.2) bit
bit_form_later t u (forms.SetB v b) p fits bit = bit

-- ---- one form

-- the longer table goes on from the first one by at most so many nodes, and is a table that such forms made
pub record Grows (P : Form → Type 0) (t : List Node) (most : ℕ) (u : List Node) : Type 0 where
  pub prefix : Prefix t u
  pub table : IsTable u
  pub grown : IsGrown P u
  pub few : length u ≤ length t + most

pub grows_not : (P : Form → Type 0) (t : List Node) → IsTable t → IsGrown P t → Grows P t 0 t
grows_not P t table grown = record { prefix = prefix_refl t; table = table; grown = grown; few = omega arith }

pub grows_more : (P : Form → Type 0) (t u : List Node) (m k : ℕ) → m ≤ k → Grows P t m u → Grows P t k u
grows_more P t u m k h a = let few = a.few in
    record { prefix = a.prefix; table = a.table; grown = a.grown; few = omega arith }

pub grows_on : (P : Form → Type 0) (t u w : List Node) (m n k : ℕ) → m + n ≤ k → Grows P t m u → Grows P u n w
    → Grows P t k w
grows_on P t u w m n k h a b = let few = a.few in let more = b.few in record {
  prefix = prefix_trans a.prefix b.prefix;
  table = b.table;
  grown = b.grown;
  few = omega arith;
}

pub made_grows : (P : Form → Type 0) (t : List Node) (f : Form) → IsTable t → IsGrown P t → FormFits t f → P f
    → Grows P t 1 (made t f).table
made_grows P t f table grown fits has = record {
  prefix = made_prefix t f;
  table = made_table t f table fits;
  grown = made_grown P t f grown fits has;
  few = made_most t f;
}

made_is : (P : Form → Type 0) (t : List Node) (f : Form) (told : Bool) → IsTable t → IsGrown P t → FormFits t f
    → (told ≡ true → MakesBit t f) → IsNodeOf (made t f).table told (made t f).number
made_is P t f told table grown fits bit = record {
  inside = made_below t f table fits;
  bit = λ e. made_low P t f grown (bit e);
}

-- ---- many forms

-- which of the forms are told to be bits
abbrev pub AreBitForms : List Node → List Bool → List Form → Type 0
AreBitForms t [] [] = Unit {0}
AreBitForms t [] (f ∷ fs) = ⊥
AreBitForms t (told ∷ more) [] = ⊥
AreBitForms t (told ∷ more) (f ∷ fs) = (told ≡ true → MakesBit t f) × AreBitForms t more fs

all_fit_later : (t u : List Node) (fs : List Form) → Prefix t u → AllByRecursion (FormFits t) fs
    → AllByRecursion (FormFits u) fs
all_fit_later t u [] p fit = tt
all_fit_later t u (f ∷ fs) p fit = (fits_later f p fit.0, all_fit_later t u fs p fit.1)

bit_forms_later : (t u : List Node) (bs : List Bool) (fs : List Form) → Prefix t u → AllByRecursion (FormFits t) fs
    → AreBitForms t bs fs → AreBitForms u bs fs
bit_forms_later t u [] [] p fit are = tt
bit_forms_later t u [] (f ∷ fs) p fit are = absurd are
bit_forms_later t u (b ∷ bs) [] p fit are = absurd are
bit_forms_later t u (b ∷ bs) (f ∷ fs) p fit are =
    (λ e. bit_form_later t u f p fit.0 (are.0 e), bit_forms_later t u bs fs p fit.1 are.1)

pub all_made_grows : (P : Form → Type 0) (t : List Node) (fs : List Form) → IsTable t → IsGrown P t
    → AllByRecursion (FormFits t) fs → AllByRecursion P fs → Grows P t (length fs) (made_all t fs).table
all_made_grows P t [] table grown fit have = grows_not P t table grown
all_made_grows P t (f ∷ fs) table grown fit have =
    let u = (made t f).table in
    let first = made_grows P t f table grown fit.0 have.0 in
    let rest = all_made_grows P u fs first.table first.grown (all_fit_later t u fs first.prefix fit.1) have.1 in
    grows_on P t u (made_all u fs).table 1 (length fs) (length (f ∷ fs)) (omega arith) first rest

pub all_made_are : (P : Form → Type 0) (t : List Node) (bs : List Bool) (fs : List Form) → IsTable t → IsGrown P t
    → AllByRecursion (FormFits t) fs → AllByRecursion P fs → AreBitForms t bs fs
    → AreNodesOf (made_all t fs).table bs (made_all t fs).numbers
all_made_are P t [] [] table grown fit have are = tt
all_made_are P t [] (f ∷ fs) table grown fit have are = absurd are
all_made_are P t (b ∷ bs) [] table grown fit have are = absurd are
all_made_are P t (b ∷ bs) (f ∷ fs) table grown fit have are =
    let u = (made t f).table in
    let first = made_grows P t f table grown fit.0 have.0 in
    let later = all_fit_later t u fs first.prefix fit.1 in
    let rest = all_made_grows P u fs first.table first.grown later have.1 in (
      node_later u (made_all u fs).table b (made t f).number rest.prefix
          (made_is P t f b table grown fit.0 are.0),
      all_made_are P u bs fs first.table first.grown later have.1 (bit_forms_later t u bs fs first.prefix fit.1 are.1),
    )

-- the nodes have the words of their forms
pub all_made_values : (P : Form → Type 0) (t : List Node) (fs : List Form) → IsTable t → IsGrown P t
    → AllByRecursion (FormFits t) fs → AllByRecursion P fs → (start : Start) (val : ℕ → ℕ)
    → AllByRecursion (Admits start) fs → IsValuation start (made_all t fs).table val
    → IsSound (made_all t fs).table val → map val (made_all t fs).numbers ≡ map (form_value start val) fs
all_made_values P t [] table grown fit have start val admit is sound = refl
all_made_values P t (f ∷ fs) table grown fit have start val admit is sound =
    let u = (made t f).table in
    let first = made_grows P t f table grown fit.0 have.0 in
    let later = all_fit_later t u fs first.prefix fit.1 in
    let rest = all_made_grows P u fs first.table first.grown later have.1 in
    let here = made_value start val t f table fit.0 admit.0
    (valuation_front rest.prefix is)
    (sound_front rest.prefix sound) in
    rw (here, all_made_values P u fs first.table first.grown later have.1 start val admit.1 is sound) refl
