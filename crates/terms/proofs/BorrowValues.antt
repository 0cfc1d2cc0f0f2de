-- The borrow that the rules make stands for whether the node is below the sum.
use Rattle.std.proofs.Common.{◌≡◌, ℕ, zero, suc, ◌<◌, ◌≤◌, List, [], ◌∷◌, length, get_or, Bool, true, false, cond}
use Rattle.std.proofs.Common.{◌&&◌, eqb, leb, ltb, refl, sym, ap, ◌∙◌, subst, arith}
use Rattle.std.specs.List.{sum_by}
use Rattle.std.proofs.lemmas.Bool.Decides.{nat_tests}
use Rattle.terms.specs.declared.nodes.Node.{Node}
use Rattle.terms.specs.declared.nodes.NodeKind.TheVariants as kinds
use Rattle.terms.specs.declared.nodes.Built.{Built}
use Rattle.terms.specs.Tables.{node_at, IsTable, AreBelow}
use Rattle.terms.specs.Meaning.{Start, total, IsValuation, IsSound, Stands}
use Rattle.terms.specs.Rules.{is_const, is_left, low_at, high_at, a_bit, by_number, without_zeros}
use Rattle.terms.specs.Rules.{borrow_left, borrow_of}
use Rattle.terms.proofs.Cases.{by_if, from_eqb, from_leb, first_true, second_true}
use Rattle.terms.proofs.ConstantValues.{is_const_value, finished_stands}
use Rattle.terms.proofs.NumberLists.{head_below, filter_below, number_below, total_by_number}
use Rattle.terms.proofs.NumberSums.{sum_lows, sum_highs, total_left}

-- 1 where x is below y
abbrev below : ℕ → ℕ → ℕ
below x y = cond (ltb x y) 1 0

below_is_0 : (x y : ℕ) → y ≤ x → below x y ≡ 0
below_is_0 x y h = grind (arith, nat_tests)

below_is_1 : (x y : ℕ) → x < y → below x y ≡ 1
below_is_1 x y h = grind (arith, nat_tests)

below_is_bit : (b : Bool) → cond b 1 0 ≤ 1
below_is_bit true = omega arith
below_is_bit false = omega arith

below_of_bit : (y : ℕ) → y ≤ 1 → y ≡ below 0 y
below_of_bit zero h = refl
below_of_bit (suc y) h = let z : y ≡ 0 = omega arith in ap suc z ∙ sym (below_is_1 0 (suc y) (omega arith))

module _ (start : Start) (val : ℕ → ℕ) (table : List Node) (t : IsTable table) (i : IsValuation start table val)
    (s : IsSound table val) where
  single : (ms : List ℕ) → AreBelow (length table) ms → eqb (length ms) 1 ≡ true
      → (get_or ms 0 0 < length table) × (total val ms ≡ val (get_or ms 0 0))
  single [] a e = cc
  single (m ∷ []) a e = (head_below (length table) m [] a, omega arith)
  single (m ∷ n ∷ ms) a e = let f = from_eqb (length (m ∷ n ∷ ms)) 1 e in absurd (omega arith)

  left_stands : (a : ℕ) (ms : List ℕ) → a < length table → AreBelow (length table) ms
      → Stands start val (below (val a) (total val ms)) (borrow_left table a ms)
  unfolding borrow_left
  left_stands a ms h inside =
      by_if (Stands start val (below (val a) (total val ms)))
      (is_const table a 0 && (eqb (length ms) 1 && leb (node_at table (get_or ms 0 0)).high 1)) _ _
      (λ e.
      let rest = second_true (is_const table a 0) _ e in
      let p = single ms inside (first_true (eqb (length ms) 1) _ rest) in
      let z = is_const_value start val table i s a 0 h (first_true (is_const table a 0) _ e) in
      let low = from_leb (node_at table (get_or ms 0 0)).high 1 (second_true (eqb (length ms) 1) _ rest) in
      let within = s.below (get_or ms 0 0) p.0 in
      let one = below_of_bit (val (get_or ms 0 0)) (omega arith) in
      one ∙ (λ j. below (sym z j) (sym p.1 j)))
      (λ _. finished_stands start val (kinds.Borrow a ms) a_bit (below (val a) (total val ms)) refl (omega arith)
      (below_is_bit (ltb (val a) (total val ms))))

  ordered_stands : (a : ℕ) (ms : List ℕ) → a < length table → AreBelow (length table) ms
      → Stands start val (below (val a) (total val ms)) (borrow_of table a ms)
  unfolding borrow_of
  ordered_stands a ms h inside =
      let P : Built → Type 0 = Stands start val (below (val a) (total val ms)) in
      let low = sum_lows start val table i s ms inside in
      let high = sum_highs start val table i s ms inside in
      let above = s.above a h in
      let under = s.below a h in
      let same = total_left start val table i s ms inside in
      by_if P (leb (sum_by (high_at table) ms) (low_at table a)) _ _
      (λ e.
      let b = from_leb (sum_by (high_at table) ms) (low_at table a) e in
      let z = below_is_0 (val a) (total val ms) (omega arith) in
      (omega arith, omega arith, omega arith))
      (λ _. by_if P (ltb (high_at table a) (sum_by (low_at table) ms)) _ _
      (λ e.
      let b = from_leb (suc (high_at table a)) (sum_by (low_at table) ms) e in
      let z = below_is_1 (val a) (total val ms) (omega arith) in
      (omega arith, omega arith, omega arith))
      (λ _. subst (λ (v : ℕ). Stands start val (below (val a) v) (borrow_left table a (without_zeros table ms))) same
      (left_stands a (without_zeros table ms) h (filter_below (length table) (is_left table) ms inside))))

  pub borrow_stands : (a : ℕ) (list : List ℕ) → a < length table → AreBelow (length table) list
      → Stands start val (cond (ltb (val a) (total val list)) 1 0) (borrow_of table a (by_number list))
  borrow_stands a list h inside =
      subst (λ (v : ℕ). Stands start val (below (val a) v) (borrow_of table a (by_number list)))
      (total_by_number val list)
      (ordered_stands a (by_number list) h (number_below (length table) list inside))
