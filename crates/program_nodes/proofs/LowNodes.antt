-- Forms of which the node is at most 1.
use Rattle.std.proofs.Common.{◌≡◌, ℕ, ◌/◌, ◌^◌, ◌<◌, ◌≤◌, min, max, eqb, List, sym, subst, arith, ⊎_elim, ◌⊎◌}
use Rattle.std.proofs.lemmas.Bool.{cases_lt}
use Rattle.intervals.specs.declared.interval.Interval.{Interval}
use Rattle.terms.specs.declared.nodes.Node.{Node}
use Rattle.terms.specs.declared.nodes.NodeKind.{NodeKind}
use Rattle.terms.specs.declared.nodes.NodeKind.TheVariants as kinds
use Rattle.terms.specs.declared.nodes.Form.{Form}
use Rattle.terms.specs.declared.nodes.Form.TheVariants as forms
use Rattle.terms.specs.declared.nodes.Built.{Built}
use Rattle.terms.specs.declared.nodes.Built.TheVariants.{Is, Make}
use Rattle.terms.specs.Tables.{node_at}
use Rattle.terms.specs.Grown.{IsGrown}
use Rattle.terms.specs.Rules.{by_number, const_node, finished, normal_of}
use Rattle.terms.proofs.Bits.{borrow_bit, carry_bit}
use Rattle.terms.proofs.Cases.{by_if, from_eqb}
use Rattle.terms.proofs.Highs.{HasExactConstants, IsHighBuilt, and_high, or_high, select_high, shr_high, xor_high}
use Rattle.terms.proofs.Highs.{zero_high}
use Rattle.term_store.specs.Interning.{made}
use Rattle.term_store.proofs.Made.{made_high}
use Rattle.program_nodes.proofs.NeatNodes.{IsNeat, grown_neat}

-- the node of such a form is at most 1
abbrev pub MakesBit : List Node → Form → Type 0
MakesBit table (forms.Const v) = v ≤ 1
MakesBit table (forms.In param word low high) = high ≤ 1
MakesBit table (forms.Carry list) = Unit {0}
MakesBit table (forms.Borrow a list) = Unit {0}
MakesBit table (forms.Zero x) = Unit {0}
MakesBit table (forms.And a b) = ((node_at table a).high ≤ 1) ⊎ ((node_at table b).high ≤ 1)
MakesBit table (forms.Or a b) = ((node_at table a).high ≤ 1) × ((node_at table b).high ≤ 1)
MakesBit table (forms.Xor a b) = ((node_at table a).high ≤ 1) × ((node_at table b).high ≤ 1)
MakesBit table (forms.Shr x k) = k ≡ 63
MakesBit table (forms.Select c x y) = ((node_at table x).high ≤ 1) × ((node_at table y).high ≤ 1)
MakesBit table _ = ⊥

higher : (table : List Node) (h k : ℕ) (built : Built) → h ≤ k → IsHighBuilt table h built → IsHighBuilt table k built
higher table h k (Is n) l b = omega (arith, b)
higher table h k (Make node) l b = omega (arith, b)

finished_low : (kind : NodeKind) (i : Interval) → i.high ≤ 1 → (finished kind i).high ≤ 1
unfolding finished
finished_low kind i h =
    by_if (λ (n : Node). n.high ≤ 1) (eqb i.low i.high) (const_node i.low)
    (record { kind = kind; low = i.low; high = i.high })
    (λ e. let same = from_eqb i.low i.high e in omega arith) (λ _. h)

-- what holds of both numbers holds of the two in order
least_of : (P : ℕ → Type 0) (a b : ℕ) → P a → P b → P (min a b)
least_of P a b p q = ⊎_elim
    (λ (h : a < b). let e : a ≡ min a b = omega arith in subst P e p)
    (λ (h : b ≤ a). let e : b ≡ min a b = omega arith in subst P e q) (cases_lt a b)

most_of : (P : ℕ → Type 0) (a b : ℕ) → P a → P b → P (max a b)
most_of P a b p q = ⊎_elim
    (λ (h : a < b). let e : b ≡ max a b = omega arith in subst P e q)
    (λ (h : b ≤ a). let e : a ≡ max a b = omega arith in subst P e p) (cases_lt a b)

module _ (table : List Node) (neat : (n : ℕ) → IsNeat (node_at table n)) where
  abbrev high : ℕ → ℕ
  high n = (node_at table n).high

  abbrev IsLow : ℕ → Type 0
  IsLow n = high n ≤ 1

  exact : HasExactConstants table
  exact n v e = (neat n).exact v e

  either_low : (a b : ℕ) → (IsLow a) ⊎ (IsLow b) → min (high (min a b)) (high (max a b)) ≤ 1
  either_low a b one = ⊎_elim
      (λ (l : a < b). let p : a ≡ min a b = omega arith in let q : b ≡ max a b = omega arith in
      subst (λ (m : ℕ). min (high m) (high (max a b)) ≤ 1) p
      (subst (λ (m : ℕ). min (high a) (high m) ≤ 1) q
      (⊎_elim (λ (h : IsLow a). omega (arith, h)) (λ (h : IsLow b). omega (arith, h)) one)))
      (λ (l : b ≤ a). let p : b ≡ min a b = omega arith in let q : a ≡ max a b = omega arith in
      subst (λ (m : ℕ). min (high m) (high (max a b)) ≤ 1) p
      (subst (λ (m : ℕ). min (high b) (high m) ≤ 1) q
      (⊎_elim (λ (h : IsLow a). omega (arith, h)) (λ (h : IsLow b). omega (arith, h)) one)))
      (cases_lt a b)

  low_built : (form : Form) → MakesBit table form → IsHighBuilt table 1 (normal_of table form)
  unfolding normal_of
  low_built (forms.Const v) bit = bit
  low_built (forms.Start reg) bit = absurd bit
  low_built (forms.In param word low high) bit =
      finished_low (kinds.In param word) (record { low = low; high = high }) bit
  low_built (forms.Lin k terms) bit = absurd bit
  low_built (forms.Carry list) bit =
      carry_bit table (by_number list)
  low_built (forms.Borrow a list) bit = borrow_bit table a (by_number list)
  low_built (forms.Zero x) bit = zero_high table x
  low_built (forms.MulLo a b) bit = absurd bit
  low_built (forms.MulHi a b) bit = absurd bit
  low_built (forms.And a b) bit =
      higher table (min (high (min a b)) (high (max a b))) 1 _ (either_low a b bit)
      (and_high table exact (min a b) (max a b))
  low_built (forms.Or a b) bit =
      or_high table exact (min a b) (max a b) (least_of IsLow a b bit.0 bit.1) (most_of IsLow a b bit.0 bit.1)
  low_built (forms.Xor a b) bit =
      xor_high table exact (min a b) (max a b) (least_of IsLow a b bit.0 bit.1) (most_of IsLow a b bit.0 bit.1)
  low_built (forms.Shr x k) bit =
      let h = (neat x).word in
      let e : (node_at table x).high / 2 ^ k ≤ 1 =
      subst (λ (j : ℕ). (node_at table x).high / 2 ^ j ≤ 1) (sym bit) (omega (arith, h)) in
      higher table ((node_at table x).high / 2 ^ k) 1 (normal_of table (forms.Shr x k)) e (shr_high table x k)
  low_built (forms.Select c x y) bit = higher table (max (high x) (high y)) 1 _ (omega (arith, bit.0, bit.1))
      (select_high table c x y)
  low_built (forms.SetB v b) bit = absurd bit

pub made_low : (P : Form → Type 0) (t : List Node) (form : Form) → IsGrown P t → MakesBit t form
    → (node_at (made t form).table (made t form).number).high ≤ 1
made_low P t form grown bit = made_high t form 1 (low_built t (grown_neat P t grown) form bit)
