-- The rules of a selection keep its word, and what they make has it in its interval.
use Rattle.std.proofs.Common.{◌≡◌, ℕ, zero, suc, ◌+◌, ◌<◌, ◌≤◌, List, length, Bool, true, false, cond, eqb, leb, min}
use Rattle.std.proofs.Common.{max}
use Rattle.std.proofs.Common.{Option, Some, None, refl, sym, ap, ◌∙◌, subst, arith}
use Rattle.base.specs.Options.{pick}
use Rattle.intervals.specs.Intervals.{choice}
use Rattle.terms.specs.declared.nodes.Node.{Node}
use Rattle.terms.specs.declared.nodes.NodeKind.TheVariants as kinds
use Rattle.terms.specs.declared.nodes.Built.{Built}
use Rattle.terms.specs.Tables.{node_at, IsTable}
use Rattle.terms.specs.Meaning.{Start, kind_value, IsValuation, IsSound, Stands}
use Rattle.terms.specs.Rules.{low_at, high_at, interval_at, is_const, own, tested, select_below, select_of}
use Rattle.terms.proofs.Cases.{by_if, from_eqb, from_leb}
use Rattle.terms.proofs.ConstantValues.{is_const_value, finished_stands}
use Rattle.terms.proofs.SelectTurns.{tested_kind, tested_below}

-- the word of a selection by the word of its condition
abbrev chosen : ℕ → ℕ → ℕ → ℕ
chosen c x y = cond (eqb c 0) x y

chosen_second : (c x y : ℕ) → 1 ≤ c → y ≡ chosen c x y
chosen_second c x y h =
    by_if (λ (v : ℕ). y ≡ v) (eqb c 0) x y (λ e. let f = from_eqb c 0 e in absurd (omega arith)) (λ _. refl)

chosen_same : (c x y : ℕ) → x ≡ y → x ≡ chosen c x y
chosen_same c x y h =
    by_if (λ (v : ℕ). x ≡ v) (eqb c 0) x y (λ _. refl) (λ _. h)

-- a test and its own word choose the other way round
chosen_turned : (c b x y : ℕ) → c ≡ cond (eqb b 0) 1 0 → chosen b y x ≡ chosen c x y
chosen_turned c b x y h = by_test (eqb b 0) h where
  by_test : (z : Bool) → c ≡ cond z 1 0 → cond z y x ≡ chosen c x y
  by_test true e = sym (ap (λ (n : ℕ). chosen n x y) e)
  by_test false e = sym (ap (λ (n : ℕ). chosen n x y) e)

module _ (start : Start) (val : ℕ → ℕ) (table : List Node) (t : IsTable table)
    (i : IsValuation start table val) (s : IsSound table val) where
  own_stands : (c x y : ℕ) → x < length table → y < length table
      → Stands start val (chosen (val c) (val x) (val y))
      (own (kinds.Select c x y) (choice (interval_at table x) (interval_at table y)))
  own_stands c x y h j =
      finished_stands start val (kinds.Select c x y) (choice (interval_at table x) (interval_at table y)) _ refl
      (by_if (λ (v : ℕ). min (low_at table x) (low_at table y) ≤ v) (eqb (val c) 0) (val x) (val y)
      (λ _. omega (arith, s.above x h)) (λ _. omega (arith, s.above y j)))
      (by_if (λ (v : ℕ). v ≤ max (high_at table x) (high_at table y)) (eqb (val c) 0) (val x) (val y)
      (λ _. omega (arith, s.below x h)) (λ _. omega (arith, s.below y j)))

  below_stands : (bound c x y : ℕ) → c < bound → c < length table → x < length table → y < length table
      → Stands start val (chosen (val c) (val x) (val y)) (select_below bound table c x y)
  unfolding select_below
  below_stands zero c x y p h j k = absurd (omega arith)
  below_stands (suc bound) c x y p h j k =
      let P : Built → Type 0 = Stands start val (chosen (val c) (val x) (val y)) in
      by_if P (leb 1 (low_at table c)) _ _ (λ e. let l = from_leb 1 (low_at table c) e in
      chosen_second (val c) (val x) (val y) (omega (arith, s.above c h)))
      (λ _. by_if P (is_const table c 0) _ _
      (λ e. sym (ap (λ (n : ℕ). chosen n (val x) (val y)) (is_const_value start val table i s c 0 h e)))
      (λ _. by_if P (eqb x y) _ _ (λ e. chosen_same (val c) (val x) (val y) (ap val (from_eqb x y e)))
      (λ _. by_tested (λ b l. below_stands bound b y x (omega arith) (omega arith) k j)
      (tested (node_at table c).kind) refl))) where
        by_tested : ((b : ℕ) → b < c
            → Stands start val (chosen (val b) (val y) (val x)) (select_below bound table b y x))
            → (o : Option ℕ) → tested (node_at table c).kind ≡ o
            → Stands start val (chosen (val c) (val x) (val y)) (pick o (λ b. select_below bound table b y x)
            (own (kinds.Select c x y) (choice (interval_at table x) (interval_at table y))))
        by_tested turned None e = own_stands c x y j k
        by_tested turned (Some b) e =
            let l = tested_below table t c b h e in
            let v = i.meets c h ∙ ap (kind_value start val) (tested_kind (node_at table c).kind b e) in
            subst (λ (n : ℕ). Stands start val n (select_below bound table b y x))
            (chosen_turned (val c) (val b) (val x) (val y) v)
            (turned b l)

  pub select_stands : (c x y : ℕ) → c < length table → x < length table → y < length table
      → Stands start val (cond (eqb (val c) 0) (val x) (val y)) (select_of table c x y)
  unfolding select_of
  select_stands c x y h j k = below_stands (c + 1) c x y (omega arith) h j k
