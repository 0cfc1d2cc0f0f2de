-- The carry that the rules make stands for the carry of the sum.
use Rattle.std.proofs.Common.{◌≡◌, ℕ, suc, ◌+◌, ◌-◌, ◌*◌, ◌/◌, ◌^◌, ◌<◌, ◌≤◌, List, [], ◌∷◌, length, get_or}
use Rattle.std.proofs.Common.{true, ◌&&◌, eqb, leb, ltb, refl, subst, arith}
use Rattle.std.specs.List.{sum_by, count_by}
use Rattle.terms.specs.declared.nodes.Node.{Node}
use Rattle.terms.specs.declared.nodes.NodeKind.TheVariants as kinds
use Rattle.terms.specs.declared.nodes.Built.{Built}
use Rattle.terms.specs.Tables.{node_at, IsTable, AreBelow}
use Rattle.terms.specs.Forms.{is_no_bit}
use Rattle.terms.specs.Meaning.{Start, total, IsValuation, IsSound, Stands}
use Rattle.terms.specs.Rules.{is_const, is_left, low_at, high_at, a_bit, passes, by_number, without_zeros}
use Rattle.terms.specs.Rules.{carry_left, carry_of}
use Rattle.terms.proofs.Cases.{by_if, from_eqb, from_leb, first_true, second_true}
use Rattle.terms.proofs.ConstantValues.{is_const_value, finished_stands}
use Rattle.terms.proofs.NumberLists.{head_below, tail_below, filter_below, number_below, total_by_number}
use Rattle.terms.proofs.NumberSums.{sum_lows, sum_highs, sum_words, total_left}

module _ (start : Start) (val : ℕ → ℕ) (table : List Node) (t : IsTable table) (i : IsValuation start table val)
    (s : IsSound table val) where
  passed : (m n v : ℕ) → m < length table → n < length table → passes table m n ≡ true → v ≡ val m + val n
      → val n ≡ v / 2 ^ 64
  passed m n v h j e p =
      let a = is_const_value start val table i s m (2 ^ 64 - 1) h (first_true _ _ e) in
      let b : (node_at table n).high ≤ 1 = from_leb (node_at table n).high 1
      (second_true (is_const table m (2 ^ 64 - 1)) (leb (node_at table n).high 1) e) in
      let c = s.below n j in
      omega arith

  pair : (ms : List ℕ) → AreBelow (length table) ms → eqb (length ms) 2 ≡ true
      → (get_or ms 0 0 < length table) × (get_or ms 1 0 < length table)
      × (total val ms ≡ val (get_or ms 0 0) + val (get_or ms 1 0))
  pair [] a e = cc
  pair (m ∷ []) a e = cc
  pair (m ∷ n ∷ []) a e = (
    head_below (length table) m (n ∷ []) a,
    head_below (length table) n [] (tail_below (length table) m (n ∷ []) a),
    omega arith,
  )
  pair (m ∷ n ∷ o ∷ ms) a e = let f = from_eqb (length (m ∷ n ∷ o ∷ ms)) 2 e in absurd (omega arith)

  left_stands : (ms : List ℕ) → AreBelow (length table) ms → total val ms < 2 * 2 ^ 64
      → Stands start val (total val ms / 2 ^ 64) (carry_left table ms)
  unfolding carry_left
  left_stands ms a h =
      let P : Built → Type 0 = Stands start val (total val ms / 2 ^ 64) in
      by_if P (eqb (length ms) 2 && passes table (get_or ms 0 0) (get_or ms 1 0)) _ _
      (λ e. let p = pair ms a (first_true _ _ e) in passed _ _ _ p.0 p.1 (second_true _ _ e) p.2)
      (λ _. by_if P (eqb (length ms) 2 && passes table (get_or ms 1 0) (get_or ms 0 0)) _ _
      (λ e. let p = pair ms a (first_true _ _ e) in
      let both = p.2 in
      passed _ _ _ p.1 p.0 (second_true _ _ e) (omega arith))
      (λ _. finished_stands start val (kinds.Carry ms) a_bit (total val ms / 2 ^ 64) refl (omega arith) (omega arith)))

  ordered_stands : (ms : List ℕ) → AreBelow (length table) ms → total val ms < 2 * 2 ^ 64
      → Stands start val (total val ms / 2 ^ 64) (carry_of table ms)
  unfolding carry_of
  ordered_stands ms a small =
      let P : Built → Type 0 = Stands start val (total val ms / 2 ^ 64) in
      let low = sum_lows start val table i s ms a in
      let high = sum_highs start val table i s ms a in
      let same = total_left start val table i s ms a in
      by_if P (leb (2 ^ 64) (sum_by (low_at table) ms)) _ _
      (λ e. let b = from_leb (2 ^ 64) (sum_by (low_at table) ms) e in (omega arith, omega arith, omega arith))
      (λ _. by_if P (ltb (sum_by (high_at table) ms) (2 ^ 64)) _ _
      (λ e. let b = from_leb (suc (sum_by (high_at table) ms)) (2 ^ 64) e in (omega arith, omega arith, omega arith))
      (λ _. subst (λ (v : ℕ). Stands start val (v / 2 ^ 64) (carry_left table (without_zeros table ms))) same
      (left_stands (without_zeros table ms) (filter_below (length table) (is_left table) ms a) (omega arith))))

  -- of at most three nodes, of which at most two may be more than 1
  pub carry_stands : (list : List ℕ) → AreBelow (length table) list → length list ≤ 3
      → count_by (is_no_bit table) list ≤ 2
      → Stands start val (total val list / 2 ^ 64) (carry_of table (by_number list))
  carry_stands list a few words =
      let same = total_by_number val list in
      let most = sum_words start val table i s list a in
      subst (λ (v : ℕ). Stands start val (v / 2 ^ 64) (carry_of table (by_number list))) same
      (ordered_stands (by_number list) (number_below (length table) list a) (omega arith))
