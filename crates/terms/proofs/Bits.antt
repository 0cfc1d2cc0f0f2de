-- Carries and borrows are bits: a number whose node is at most 1, or a node that is.
use Rattle.std.proofs.Common.{◌≡◌, ℕ, ◌-◌, ◌^◌, ◌≤◌, List, length, get_or, Bool, true, ◌&&◌, eqb, leb, ltb, arith}
use Rattle.std.specs.List.{sum_by}
use Rattle.terms.specs.declared.nodes.Node.{Node}
use Rattle.terms.specs.declared.nodes.NodeKind.{NodeKind}
use Rattle.terms.specs.declared.nodes.NodeKind.TheVariants as kinds
use Rattle.terms.specs.declared.nodes.Built.{Built}
use Rattle.terms.specs.Tables.{node_at}
use Rattle.terms.specs.Rules.{finished, is_const, low_at, high_at, a_bit, passes, without_zeros}
use Rattle.terms.specs.Rules.{carry_left, carry_of, borrow_left, borrow_of}
use Rattle.terms.proofs.Cases.{by_if, from_leb, second_true}
use Rattle.terms.proofs.Highs.{IsHighBuilt}

abbrev pub IsBitBuilt : List Node → Built → Type 0
IsBitBuilt table built = IsHighBuilt table 1 built

bit_made : (kind : NodeKind) → (finished kind a_bit).high ≤ 1
unfolding finished
bit_made kind = omega arith

module _ (table : List Node) where
  passed_bit : (b : Bool) (m n : ℕ) → (b && passes table m n) ≡ true → (node_at table n).high ≤ 1
  passed_bit b m n e = from_leb (node_at table n).high 1
      (second_true (is_const table m (2 ^ 64 - 1)) (leb (node_at table n).high 1) (second_true b (passes table m n) e))

  left_carry_bit : (ms : List ℕ) → IsBitBuilt table (carry_left table ms)
  unfolding carry_left
  left_carry_bit ms =
      by_if (IsBitBuilt table) (eqb (length ms) 2 && passes table (get_or ms 0 0) (get_or ms 1 0)) _ _
      (λ e. passed_bit (eqb (length ms) 2) (get_or ms 0 0) (get_or ms 1 0) e)
      (λ _. by_if (IsBitBuilt table) (eqb (length ms) 2 && passes table (get_or ms 1 0) (get_or ms 0 0)) _ _
      (λ e. passed_bit (eqb (length ms) 2) (get_or ms 1 0) (get_or ms 0 0) e)
      (λ _. bit_made (kinds.Carry ms)))

  pub carry_bit : (ms : List ℕ) → IsBitBuilt table (carry_of table ms)
  unfolding carry_of
  carry_bit ms =
      by_if (IsBitBuilt table) (leb (2 ^ 64) (sum_by (low_at table) ms)) _ _ (λ _. omega arith)
      (λ _. by_if (IsBitBuilt table) (ltb (sum_by (high_at table) ms) (2 ^ 64)) _ _ (λ _. omega arith)
      (λ _. left_carry_bit (without_zeros table ms)))

  left_borrow_bit : (a : ℕ) (ms : List ℕ) → IsBitBuilt table (borrow_left table a ms)
  unfolding borrow_left
  left_borrow_bit a ms =
      by_if (IsBitBuilt table)
      (is_const table a 0 && (eqb (length ms) 1 && leb (node_at table (get_or ms 0 0)).high 1)) _ _
      (λ e. from_leb (node_at table (get_or ms 0 0)).high 1
      (second_true (eqb (length ms) 1) _ (second_true (is_const table a 0) _ e)))
      (λ _. bit_made (kinds.Borrow a ms))

  pub borrow_bit : (a : ℕ) (ms : List ℕ) → IsBitBuilt table (borrow_of table a ms)
  unfolding borrow_of
  borrow_bit a ms =
      by_if (IsBitBuilt table) (leb (sum_by (high_at table) ms) (low_at table a)) _ _ (λ _. omega arith)
      (λ _. by_if (IsBitBuilt table) (ltb (high_at table a) (sum_by (low_at table) ms)) _ _ (λ _. omega arith)
      (λ _. left_borrow_bit a (without_zeros table ms)))
