-- Nodes that are constants, and nodes that become constants.
use Rattle.std.proofs.Common.{◌≡◌, ℕ, ◌<◌, ◌≤◌, List, length, true, false, Option, Some, None, ap, ◌∙◌, eqb, arith}
use Rattle.intervals.specs.declared.interval.Interval.{Interval}
use Rattle.terms.specs.declared.nodes.Node.{Node}
use Rattle.terms.specs.declared.nodes.NodeKind.{NodeKind}
use Rattle.terms.specs.declared.nodes.NodeKind.TheVariants as kinds
use Rattle.terms.specs.declared.nodes.Built.TheVariants.{Make}
use Rattle.terms.specs.Tables.{node_at, const_of, RefersBelow}
use Rattle.terms.specs.Forms.{BuiltFits}
use Rattle.terms.specs.Meaning.{Start, kind_value, IsValuation, IsSound, Stands}
use Rattle.terms.specs.Rules.{constant_at, is_value, is_const, const_node, finished, own}
use Rattle.terms.proofs.Cases.{by_if, from_eqb}

-- ---- nodes that are constants

const_kind : (kind : NodeKind) (v : ℕ) → const_of kind ≡ Some v → kind ≡ kinds.Const v
const_kind (kinds.Const w) v e = ap kinds.Const (some_inj w v e) where
  some_inj : (m n : ℕ) → Some m ≡ Some n → m ≡ n
  some_inj m n e = cc
const_kind kind v e = absurd (none v e) where
  none : (v : ℕ) → None ≡ Some v → ⊥
  none v e = cc

is_some : (found : Option ℕ) (v : ℕ) → is_value found v ≡ true → found ≡ Some v
is_some None v e = absurd (let f : false ≡ true = e in cc)
is_some (Some w) v e = ap Some (from_eqb w v e)

module _ (start : Start) (val : ℕ → ℕ) (table : List Node)
    (i : IsValuation start table val) (s : IsSound table val) where
  pub const_value : (n v : ℕ) → n < length table → constant_at table n ≡ Some v → val n ≡ v
  const_value n v h e = i.meets n h ∙ ap (kind_value start val) (const_kind (node_at table n).kind v e)

  pub is_const_value : (n v : ℕ) → n < length table → is_const table n v ≡ true → val n ≡ v
  is_const_value n v h e = const_value n v h (is_some (constant_at table n) v e)

-- ---- nodes that become constants

pub finished_stands : (start : Start) (val : ℕ → ℕ) (kind : NodeKind) (i : Interval) (v : ℕ)
    → kind_value start val kind ≡ v → i.low ≤ v → v ≤ i.high → Stands start val v (Make (finished kind i))
unfolding finished
finished_stands start val kind i v e a b =
    by_if (λ (n : Node). Stands start val v (Make n)) (eqb i.low i.high) (const_node i.low)
    (record { kind = kind; low = i.low; high = i.high })
    (λ q. let f = from_eqb i.low i.high q in (omega arith, a, omega arith)) (λ q. (e, a, b))

pub own_fits : (table : List Node) (kind : NodeKind) (i : Interval) → RefersBelow (length table) kind
    → BuiltFits table (own kind i)
unfolding finished
own_fits table kind i r =
    by_if (λ (n : Node). BuiltFits table (Make n)) (eqb i.low i.high) (const_node i.low)
    (record { kind = kind; low = i.low; high = i.high }) (λ _. tt) (λ _. r)
