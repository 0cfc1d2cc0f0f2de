-- How high the intervals are of what the rules make, by the intervals of the nodes alone.
use Rattle.std.proofs.Common.{◌≡◌, ℕ, zero, suc, ◌+◌, ◌/◌, ◌^◌, ◌≤◌, List, true, false, ◌||◌}
use Rattle.std.proofs.Common.{eqb, leb, min, max, Option, Some, None, refl, ap, subst, arith}
use Rattle.std.specs.Prelude.{bit_and, bit_or, bit_xor}
use Rattle.std.proofs.lemmas.Nat.{and_le_l, and_le_r, or_lt, xor_lt}
use Rattle.base.specs.Options.{pick}
use Rattle.intervals.specs.declared.interval.Interval.{Interval}
use Rattle.intervals.specs.Intervals.{ones, bits_and, bits_or, bits_xor, shifted_right, choice}
use Rattle.intervals.proofs.Lies.{least_ones}
use Rattle.terms.specs.declared.nodes.Node.{Node}
use Rattle.terms.specs.declared.nodes.NodeKind.{NodeKind}
use Rattle.terms.specs.declared.nodes.NodeKind.TheVariants as kinds
use Rattle.terms.specs.declared.nodes.Built.{Built}
use Rattle.terms.specs.declared.nodes.Built.TheVariants.{Is, Make}
use Rattle.terms.specs.Tables.{node_at, const_of}
use Rattle.terms.specs.Rules.{low_at, high_at, interval_at, constant_at, is_const, const_node, finished, own, a_bit}
use Rattle.terms.specs.Rules.{covers}
use Rattle.terms.specs.Rules.{both_const, tested, zero_of, and_of, or_of, xor_of, select_below, select_of}
use Rattle.terms.proofs.Cases.{by_if, second_true, from_eqb, from_leb}

-- the interval of what was made is not higher
abbrev pub IsHighBuilt : List Node → ℕ → Built → Type 0
IsHighBuilt table h (Is n) = high_at table n ≤ h
IsHighBuilt table h (Make node) = node.high ≤ h

-- a constant is not higher than itself, as in tables that the rules made
abbrev pub HasExactConstants : List Node → Type 0
HasExactConstants table = (n v : ℕ) → const_of (node_at table n).kind ≡ Some v → (node_at table n).high ≡ v

own_high : (table : List Node) (h : ℕ) (kind : NodeKind) (i : Interval) → i.high ≤ h → IsHighBuilt table h (own kind i)
unfolding finished
own_high table h kind i l =
    by_if (λ (n : Node). n.high ≤ h) (eqb i.low i.high) (const_node i.low)
    (record { kind = kind; low = i.low; high = i.high }) (λ e. let f = from_eqb i.low i.high e in omega arith) (λ _. l)

pub zero_high : (table : List Node) (x : ℕ) → IsHighBuilt table 1 (zero_of table x)
unfolding zero_of
zero_high table x =
    by_if (IsHighBuilt table 1) (leb 1 (low_at table x)) _ _ (λ _. omega arith)
    (λ _. by_if (IsHighBuilt table 1) (is_const table x 0) _ _ (λ _. omega arith)
    (λ _. own_high table 1 (kinds.Zero x) a_bit (omega arith)))

pub shr_high : (table : List Node) (x k : ℕ)
    → IsHighBuilt table (high_at table x / 2 ^ k) (own (kinds.Shr x k) (shifted_right (interval_at table x) k))
shr_high table x k = own_high table _ (kinds.Shr x k) (shifted_right (interval_at table x) k) (omega arith)

-- ---- by bits

-- of two constants that are not higher than their nodes, or else
both_high : (table : List Node) (c : HasExactConstants table) (h : ℕ) (f : ℕ → ℕ → ℕ) (a b : ℕ) (other : Built)
    → f (high_at table a) (high_at table b) ≤ h → IsHighBuilt table h other
    → IsHighBuilt table h (both_const f (constant_at table a) (constant_at table b) other)
both_high table c h f a b other l n = both (constant_at table a) (constant_at table b) refl refl where
  both : (o q : Option ℕ) → constant_at table a ≡ o → constant_at table b ≡ q
      → IsHighBuilt table h (both_const f o q other)
  both (Some v) (Some w) d e =
      let p : high_at table a ≡ v = c a v d in
      let q : high_at table b ≡ w = c b w e in
      subst (λ (n : ℕ). n ≤ h) (λ x. f (p x) (q x)) l
  both (Some v) None d e = n
  both None q d e = n

covers_high : (table : List Node) (c : HasExactConstants table) (a b : ℕ)
    → covers (constant_at table a) (high_at table b) ≡ true → high_at table b ≤ high_at table a
covers_high table c a b e = by_constant (constant_at table a) refl e where
  by_constant : (o : Option ℕ) → constant_at table a ≡ o → covers o (high_at table b) ≡ true
      → high_at table b ≤ high_at table a
  by_constant None p d = absurd (let f : false ≡ true = d in cc)
  by_constant (Some v) p d =
      let l : high_at table b ≤ v = from_leb (high_at table b) v (second_true (eqb (ones v) v) _ d) in
      let q : high_at table a ≡ v = c a v p in
      omega arith

pub and_high : (table : List Node) → HasExactConstants table → (a b : ℕ)
    → IsHighBuilt table (min (high_at table a) (high_at table b)) (and_of table a b)
unfolding and_of
and_high table c a b =
    let P = IsHighBuilt table (min (high_at table a) (high_at table b)) in
    by_if P (eqb a b) _ _ (λ e. let f = ap (high_at table) (from_eqb a b e) in omega arith)
    (λ _. by_if P (is_const table a 0 || is_const table b 0) _ _ (λ _. omega arith)
    (λ _. by_if P (covers (constant_at table a) (high_at table b)) _ _
    (λ e. let l = covers_high table c a b e in omega arith)
    (λ _. by_if P (covers (constant_at table b) (high_at table a)) _ _
    (λ e. let l = covers_high table c b a e in omega arith)
    (λ _. both_high table c _ bit_and a b _
    (omega (arith, and_le_l (high_at table a) (high_at table b), and_le_r (high_at table a) (high_at table b)))
    (own_high table _ (kinds.And a b) (bits_and (interval_at table a) (interval_at table b)) (omega arith))))))

-- a bit has at most one digit
bit_ones : (n : ℕ) → n ≤ 1 → ones n ≤ 1
bit_ones n h = (least_ones n (omega arith)).least 1 (omega arith)

pub or_high : (table : List Node) → HasExactConstants table → (a b : ℕ) → high_at table a ≤ 1 → high_at table b ≤ 1
    → IsHighBuilt table 1 (or_of table a b)
unfolding or_of
or_high table c a b h j =
    by_if (IsHighBuilt table 1) (eqb a b) _ _ (λ _. h)
    (λ _. by_if (IsHighBuilt table 1) (is_const table a 0) _ _ (λ _. j)
    (λ _. by_if (IsHighBuilt table 1) (is_const table b 0) _ _ (λ _. h)
    (λ _. both_high table c 1 bit_or a b _
    (omega (arith, or_lt 1 (high_at table a) (high_at table b) (omega arith) (omega arith)))
    (own_high table 1 (kinds.Or a b) (bits_or (interval_at table a) (interval_at table b))
    (bit_ones (max (high_at table a) (high_at table b)) (omega arith))))))

pub xor_high : (table : List Node) → HasExactConstants table → (a b : ℕ) → high_at table a ≤ 1 → high_at table b ≤ 1
    → IsHighBuilt table 1 (xor_of table a b)
unfolding xor_of
xor_high table c a b h j =
    by_if (IsHighBuilt table 1) (eqb a b) _ _ (λ _. omega arith)
    (λ _. by_if (IsHighBuilt table 1) (is_const table a 0) _ _ (λ _. j)
    (λ _. by_if (IsHighBuilt table 1) (is_const table b 0) _ _ (λ _. h)
    (λ _. both_high table c 1 bit_xor a b _
    (omega (arith, xor_lt 1 (high_at table a) (high_at table b) (omega arith) (omega arith)))
    (own_high table 1 (kinds.Xor a b) (bits_xor (interval_at table a) (interval_at table b))
    (bit_ones (max (high_at table a) (high_at table b)) (omega arith))))))

-- ---- Select

below_high : (table : List Node) (bound c x y : ℕ)
    → IsHighBuilt table (max (high_at table x) (high_at table y)) (select_below bound table c x y)
unfolding select_below
below_high table zero c x y =
    own_high table _ (kinds.Select c x y) (choice (interval_at table x) (interval_at table y)) (omega arith)
below_high table (suc bound) c x y =
    let P = IsHighBuilt table (max (high_at table x) (high_at table y)) in
    by_if P (leb 1 (low_at table c)) _ _ (λ _. omega arith)
    (λ _. by_if P (is_const table c 0) _ _ (λ _. omega arith)
    (λ _. by_if P (eqb x y) _ _ (λ _. omega arith)
    (λ _. by_tested (λ b. below_high table bound b y x) (tested (node_at table c).kind)))) where
      by_tested : ((b : ℕ)
          → IsHighBuilt table (max (high_at table y) (high_at table x)) (select_below bound table b y x))
          → (o : Option ℕ)
          → IsHighBuilt table (max (high_at table x) (high_at table y)) (pick o (λ b. select_below bound table b y x)
          (own (kinds.Select c x y) (choice (interval_at table x) (interval_at table y))))
      by_tested turned None =
          own_high table _ (kinds.Select c x y) (choice (interval_at table x) (interval_at table y)) (omega arith)
      by_tested turned (Some b) =
          let e : max (high_at table y) (high_at table x) ≡ max (high_at table x) (high_at table y) = omega arith in
          subst (λ (h : ℕ). IsHighBuilt table h (select_below bound table b y x)) e (turned b)

pub select_high : (table : List Node) (c x y : ℕ)
    → IsHighBuilt table (max (high_at table x) (high_at table y)) (select_of table c x y)
unfolding select_of
select_high table c x y = below_high table (c + 1) c x y
