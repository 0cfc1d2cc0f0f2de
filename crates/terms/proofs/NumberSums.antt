-- Sums of the words of nodes, against the sums of their ends.
use Rattle.std.proofs.Common.{◌≡◌, ℕ, ◌+◌, ◌-◌, ◌*◌, ◌^◌, ◌<◌, ◌≤◌, List, [], ◌∷◌, length, Bool, true, false}
use Rattle.std.proofs.Common.{cond, not, ltb, refl, arith}
use Rattle.std.specs.List.{sum_by, count_by}
use Rattle.std.proofs.lemmas.Bool.Decides.{nat_tests}
use Rattle.std.proofs.lemmas.List.Sums.{sum_by-cons}
use Rattle.terms.specs.declared.nodes.Node.{Node}
use Rattle.terms.specs.Tables.{node_at, AreBelow}
use Rattle.terms.specs.Forms.{is_no_bit}
use Rattle.terms.specs.Meaning.{Start, total, IsValuation, IsSound}
use Rattle.terms.specs.Rules.{is_const, is_left, low_at, high_at, without_zeros}
use Rattle.terms.proofs.Cases.{by_if}
use Rattle.terms.proofs.ConstantValues.{is_const_value}
use Rattle.terms.proofs.NumberLists.{total_is_sum, head_below, tail_below}

module _ (start : Start) (val : ℕ → ℕ) (table : List Node) (i : IsValuation start table val)
    (s : IsSound table val) where
  abbrev Inside : List ℕ → Type 0
  Inside ms = AreBelow (length table) ms

  lows : (ms : List ℕ) → Inside ms → total (low_at table) ms ≤ total val ms
  lows [] a = omega arith
  lows (m ∷ ms) a =
      let r = lows ms (tail_below (length table) m ms a) in
      let l = s.above m (head_below (length table) m ms a) in
      omega arith

  highs : (ms : List ℕ) → Inside ms → total val ms ≤ total (high_at table) ms
  highs [] a = omega arith
  highs (m ∷ ms) a =
      let r = highs ms (tail_below (length table) m ms a) in
      let h = s.below m (head_below (length table) m ms a) in
      omega arith

  pub sum_lows : (ms : List ℕ) → Inside ms → sum_by (low_at table) ms ≤ total val ms
  sum_lows ms a = let e = total_is_sum (low_at table) ms in let l = lows ms a in omega arith

  pub sum_highs : (ms : List ℕ) → Inside ms → total val ms ≤ sum_by (high_at table) ms
  sum_highs ms a = let e = total_is_sum (high_at table) ms in let h = highs ms a in omega arith

  one_word : (m : ℕ) → m < length table → (b : Bool) → ltb 1 (node_at table m).high ≡ b
      → val m ≤ cond b 1 0 * (2 ^ 64 - 2) + 1
  one_word m h true e = let w = s.word m h in omega arith
  one_word m h false e =
      let b = s.below m h in let n : (node_at table m).high ≤ 1 = grind (arith, nat_tests) in omega arith

  -- all of them are at most 1 but those that are no bits
  pub sum_words : (ms : List ℕ) → Inside ms → total val ms ≤ count_by (is_no_bit table) ms * (2 ^ 64 - 2) + length ms
  sum_words [] a = omega arith
  sum_words (m ∷ ms) a =
      let p = sum_by-cons (λ (k : ℕ). cond (is_no_bit table k) 1 0) m ms in
      let r = sum_words ms (tail_below (length table) m ms a) in
      let w = one_word m (head_below (length table) m ms a) (ltb 1 (node_at table m).high) refl in
      omega arith

  un_not : (b : Bool) → not b ≡ false → b ≡ true
  un_not true e = refl
  un_not false e = cc

  -- the constant 0 adds nothing
  pub total_left : (ms : List ℕ) → Inside ms → total val (without_zeros table ms) ≡ total val ms
  total_left [] a = refl
  total_left (m ∷ ms) a =
      let r = total_left ms (tail_below (length table) m ms a) in
      let here = head_below (length table) m ms a in
      by_if (λ (l : List ℕ). total val l ≡ total val (m ∷ ms)) (is_left table m) (m ∷ without_zeros table ms)
      (without_zeros table ms) (λ e. omega arith)
      (λ e. let z = is_const_value start val table i s m 0 here (un_not (is_const table m 0) e) in omega arith)
